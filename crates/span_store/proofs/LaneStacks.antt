-- The lanes' stacks, as the map of those that aren't empty.
use Rattle.std.proofs.Common.{◌≡◌, ℕ, zero, suc, List, [], ◌∷◌, Option, Some, None, Bool, true, false, cond, refl, sym, ap, subst, ◌∙◌, max}
use Rattle.std.proofs.Math.Nat.{max-zero}
use Rattle.std.specs.Cmp.{nat_cmp_total}
use Rattle.std.specs.FinMap.{empty, get, get-empty, get-insert, get-remove, nat_cmp-IsAntisymmetric, remove, same_map}
use Rattle.std.specs.HashMap.{HashMap, Updates}
use Rattle.std.specs.Map.{lookup}
use Rattle.std.specs.Option.{option_and_then, option_map, unwrap_or}
use Rattle.std.specs.Ordering.{eq_by_cmp, nat_cmp}
use Rattle.std.specs.Prelude.{nat_eq}
use Rattle.span_core.specs.declared.span.Lane.{Lane}
use Rattle.span_store.specs.LaneStack.{HeldStack, leave, no_entries}
use Rattle.span_store.specs.Store.{Rooms, Stacks, room_on, stack_on, with_room_on, with_stack_on}
use Rattle.span_store.specs.private.StoreRepr.{ChangesStack, KeptStacks, held_on, no_stacks, rooms_of, stacks_of, stacks_with}
use Rattle.span_store.proofs.LaneMaps.{LeavesOut, again, beside, get_beside, get_of, of_put, on_beside, on_here, on_of, plain_of, plain_put, put_same}
use Rattle.span_store.proofs.Chains.{other_test, same_test, test_same}

empty_at : (b : Bool) (o : Option (List ℕ)) → unwrap_or (cond b None o) [] ≡ cond b [] (unwrap_or o [])
empty_at true o = refl
empty_at false o = refl

full_at : (b : Bool) (xs : List ℕ) (o : Option (List ℕ)) → unwrap_or (cond b (Some xs) o) [] ≡ cond b xs (unwrap_or o [])
full_at true xs o = refl
full_at false xs o = refl

pub stack_with : (m : Stacks) (k : ℕ) (xs : List ℕ) (q : ℕ) → stack_on (with_stack_on m k xs) q ≡ cond (eq_by_cmp nat_cmp q k) xs (stack_on m q)
stack_with m k [] q = ap (λ (o : Option (List ℕ)). unwrap_or o []) (get-remove nat_cmp_total m k q) ∙ empty_at (eq_by_cmp nat_cmp q k) (get m q)
stack_with m k (x ∷ xs) q =
    ap (λ (o : Option (List ℕ)). unwrap_or o []) (get-insert nat_cmp_total m k (x ∷ xs) q) ∙ full_at (eq_by_cmp nat_cmp q k) (x ∷ xs) (get m q)

-- the stack that was written
pub stack_here : (m : Stacks) (k : ℕ) (xs : List ℕ) → stack_on (with_stack_on m k xs) k ≡ xs
stack_here m k xs = stack_with m k xs k ∙ ap (λ (b : Bool). cond b xs (stack_on m k)) (same_test k k refl)

-- another one
pub stack_beside : (m : Stacks) (k : ℕ) (xs : List ℕ) (q : ℕ) → ¬ (q ≡ k) → stack_on (with_stack_on m k xs) q ≡ stack_on m q
stack_beside m k xs q other = stack_with m k xs q ∙ ap (λ (b : Bool). cond b xs (stack_on m q)) (other_test q k other)

-- a stack that is empty is none
abbrev some_stack : List ℕ → Option (List ℕ)
some_stack [] = None
some_stack (x ∷ xs) = Some (x ∷ xs)

-- the stacks leave out those that are empty, and the rooms those of no entry
pub stacks_out : LeavesOut (List ℕ) [] some_stack with_stack_on
stacks_out = record { none = refl; plain = λ xs. plain xs; twice = λ xs. twice xs; get_put = λ m k xs q. get_with m k xs q }
  where
    plain : (xs : List ℕ) → unwrap_or (some_stack xs) [] ≡ xs
    plain [] = refl
    plain (x ∷ xs) = refl

    twice : (xs : List ℕ) → option_and_then some_stack (some_stack xs) ≡ some_stack xs
    twice [] = refl
    twice (x ∷ xs) = refl

    get_with : (m : Stacks) (k : ℕ) (xs : List ℕ) (q : ℕ) → get (with_stack_on m k xs) q ≡ cond (eq_by_cmp nat_cmp q k) (some_stack xs) (get m q)
    get_with m k [] q = get-remove nat_cmp_total m k q
    get_with m k (x ∷ xs) q = get-insert nat_cmp_total m k (x ∷ xs) q

abbrev some_room : ℕ → Option ℕ
some_room zero = None
some_room (suc n) = Some (suc n)

pub rooms_out : LeavesOut ℕ 0 some_room with_room_on
rooms_out = record { none = refl; plain = λ n. plain n; twice = λ n. twice n; get_put = λ m k n q. get_with m k n q }
  where
    plain : (n : ℕ) → unwrap_or (some_room n) 0 ≡ n
    plain zero = refl
    plain (suc n) = refl

    twice : (n : ℕ) → option_and_then some_room (some_room n) ≡ some_room n
    twice zero = refl
    twice (suc n) = refl

    get_with : (m : Rooms) (k n q : ℕ) → get (with_room_on m k n) q ≡ cond (eq_by_cmp nat_cmp q k) (some_room n) (get m q)
    get_with m k zero q = get-remove nat_cmp_total m k q
    get_with m k (suc n) q = get-insert nat_cmp_total m k (suc n) q

abbrev spans_in : HeldStack → List ℕ
spans_in s = s.spans

abbrev room_in : HeldStack → ℕ
room_in s = s.room

-- of a lane's stack the last one written counts
pub put_again : (m : Stacks) (k : ℕ) (xs ys : List ℕ) → with_stack_on (with_stack_on m k xs) k ys ≡ with_stack_on m k ys
put_again = again stacks_out

-- what a lane has: its stack and its room
pub stack_kept : (first : HeldStack) (es : List (ℕ × HeldStack)) (k : ℕ)
    → with_stack_on (stacks_with first es).stacks k (stack_on (stacks_with first es).stacks k) ≡ (stacks_with first es).stacks
stack_kept first es k =
    put_same stacks_out _ k (plain_put stacks_out (stacks_of es) 0 first.spans (plain_of stacks_out spans_in stacks_of refl (λ e es. refl) es))

pub room_kept : (first : HeldStack) (es : List (ℕ × HeldStack)) (k : ℕ)
    → with_room_on (stacks_with first es).rooms k (room_on (stacks_with first es).rooms k) ≡ (stacks_with first es).rooms
room_kept first es k = put_same rooms_out _ k (plain_put rooms_out (rooms_of es) 0 first.room (plain_of rooms_out room_in rooms_of refl (λ e es. refl) es))

-- the lanes' stacks, where one has this stack with this room
abbrev pub stacks_then : KeptStacks → ℕ → HeldStack → KeptStacks
stacks_then t k s = record { stacks = with_stack_on t.stacks k s.spans; rooms = with_room_on t.rooms k s.room }

-- the stack that a lane has with its room
abbrev pub held_in : KeptStacks → ℕ → HeldStack
held_in t k = record { spans = stack_on t.stacks k; room = room_on t.rooms k }

pub held_first : (first : HeldStack) (es : List (ℕ × HeldStack)) → held_in (stacks_with first es) 0 ≡ first
held_first first es = λ i. record { spans = on_here stacks_out (stacks_of es) 0 first.spans i; room = on_here rooms_out (rooms_of es) 0 first.room i }

or_none : (o : Option HeldStack) → record { spans = unwrap_or (option_map spans_in o) []; room = unwrap_or (option_map room_in o) 0 } ≡ unwrap_or o no_entries
or_none None = refl
or_none (Some s) = refl

pub held_other : {H : Type 0} (first : HeldStack) (m : HashMap ℕ HeldStack H) (lane : Lane)
    → ¬ (lane.0 ≡ 0) → held_in (stacks_with first m.entries) lane.0 ≡ held_on m lane
held_other first m lane other =
    let k = lane.0 in
    let stack = on_beside stacks_out (stacks_of m.entries) 0 first.spans k other ∙ on_of stacks_out spans_in stacks_of refl (λ e es. refl) m.entries k in
    let room = on_beside rooms_out (rooms_of m.entries) 0 first.room k other ∙ on_of rooms_out room_in rooms_of refl (λ e es. refl) m.entries k in
    let both : held_in (stacks_with first m.entries) k ≡ record {
      spans = unwrap_or (option_map spans_in (lookup (nat_eq k) m.entries)) [];
      room = unwrap_or (option_map room_in (lookup (nat_eq k) m.entries)) 0;
    } =
    λ i. record { spans = stack i; room = room i } in
    both ∙ or_none (lookup (nat_eq k) m.entries)

-- the stack of a lane is written
pub first_then : (first s : HeldStack) (es : List (ℕ × HeldStack)) → stacks_with s es ≡ stacks_then (stacks_with first es) 0 s
first_then first s es =
    λ i. record { stacks = sym (again stacks_out (stacks_of es) 0 first.spans s.spans) i; rooms = sym (again rooms_out (rooms_of es) 0 first.room s.room) i }

pub other_then : {H : Type 0} (first s : HeldStack) (m n : HashMap ℕ HeldStack H) (k : ℕ)
    → ¬ (k ≡ 0) → Updates nat_eq m n k (Some s) → stacks_with first n.entries ≡ stacks_then (stacks_with first m.entries) k s
other_then first s m n k other u =
    let stacks : (stacks_with first n.entries).stacks ≡ with_stack_on (stacks_with first m.entries).stacks k s.spans =
    ap (λ (t : Stacks). with_stack_on t 0 first.spans) (of_put stacks_out spans_in stacks_of refl (λ e es. refl) m n k s u)
    ∙ beside stacks_out (stacks_of m.entries) k 0 s.spans first.spans other in
    let rooms : (stacks_with first n.entries).rooms ≡ with_room_on (stacks_with first m.entries).rooms k s.room =
    ap (λ (t : Rooms). with_room_on t 0 first.room) (of_put rooms_out room_in rooms_of refl (λ e es. refl) m n k s u)
    ∙ beside rooms_out (rooms_of m.entries) k 0 s.room first.room other in
    λ i. record { stacks = stacks i; rooms = rooms i }

-- a lane without entries has no stack
pub no_stack : (first : HeldStack) (es : List (ℕ × HeldStack)) (q : ℕ) → ¬ (q ≡ 0) → lookup (nat_eq q) es ≡ None → get (stacks_with first es).stacks q ≡ None
no_stack first es q other none = get_beside stacks_out (stacks_of es) 0 first.spans q other
    ∙ get_of stacks_out spans_in stacks_of refl (λ e es. refl) es q ∙ ap (option_and_then (λ s. some_stack (spans_in s))) none

-- no stack, and no room
pub none_held : stacks_with no_entries [] ≡ no_stacks
none_held = λ i. record {
  stacks = same_map nat_cmp_total
      nat_cmp-IsAntisymmetric (remove empty 0) empty (λ q. get-remove nat_cmp_total empty 0 q ∙ either (eq_by_cmp nat_cmp q 0) _ (get-empty nat_cmp q)) i;
  rooms = same_map nat_cmp_total
      nat_cmp-IsAntisymmetric (remove empty 0) empty (λ q. get-remove nat_cmp_total empty 0 q ∙ either (eq_by_cmp nat_cmp q 0) _ (get-empty nat_cmp q)) i;
}
  where
    either : {X : Type 0} (b : Bool) (o : Option X) → o ≡ None → cond b None o ≡ o
    either true o none = sym none
    either false o none = refl

-- to leave a lane that stands nowhere changes nothing
pub stacks_none : (m : Stacks) (k x : ℕ) → get m k ≡ None → m ≡ with_stack_on m k (leave x (stack_on m k))
stacks_none m k x e =
    sym (ap (with_stack_on m k) (ap (λ (o : Option (List ℕ)). leave x (unwrap_or o [])) e) ∙ same_map nat_cmp_total nat_cmp-IsAntisymmetric (remove m k) m (λ q.
    get-remove nat_cmp_total m k q ∙ by_case q (eq_by_cmp nat_cmp q k) refl))
  where
    by_case : (q : ℕ) (b : Bool) → eq_by_cmp nat_cmp q k ≡ b → cond (eq_by_cmp nat_cmp q k) None (get m q) ≡ get m q
    by_case q true t = ap (λ (b : Bool). cond b None (get m q)) t ∙ sym (ap (get m) (test_same q k t) ∙ e)
    by_case q false t = ap (λ (b : Bool). cond b None (get m q)) t

-- ---- what calls leave
-- the lanes' stacks, where that of a lane is changed so

abbrev pub stacks_by : (HeldStack → HeldStack) → KeptStacks → ℕ → KeptStacks
stacks_by f t k = stacks_then t k (f (held_in t k))

pub first_by : (f : HeldStack → HeldStack) (first : HeldStack) (es : List (ℕ × HeldStack)) (t : KeptStacks) (k : ℕ)
    → stacks_with first es ≡ t → k ≡ 0 → stacks_with (f first) es ≡ stacks_by f t k
first_by f first es t k is zero_is =
    first_then first (f first) es
    ∙ ap (λ (s : HeldStack). stacks_then (stacks_with first es) 0 (f s)) (sym (held_first first es))
    ∙ ap (λ (u : KeptStacks). stacks_by f u 0) is
    ∙ ap (stacks_by f t) (sym zero_is)

pub other_by : {H : Type 0} (f : HeldStack → HeldStack) (first : HeldStack) (m n : HashMap ℕ HeldStack H) (t : KeptStacks) (lane : Lane)
    → stacks_with first m.entries ≡ t → ¬ (lane.0 ≡ 0) → ChangesStack lane f m n → stacks_with first n.entries ≡ stacks_by f t lane.0
other_by f first m n t lane is other u =
    other_then first (f (held_on m lane)) m n lane.0 other u
    ∙ ap (λ (s : HeldStack). stacks_then (stacks_with first m.entries) lane.0 (f s)) (sym (held_other first m lane other))
    ∙ ap (λ (v : KeptStacks). stacks_by f v lane.0) is

-- a change of the spans alone leaves the room, and one of the room alone the spans
pub spans_alone : (first : HeldStack) (es : List (ℕ × HeldStack)) (t : KeptStacks) (k : ℕ) (xs : List ℕ)
    → stacks_with first es ≡ t → stacks_then t k (record { spans = xs; room = room_on t.rooms k }) ≡ record t { stacks = with_stack_on t.stacks k xs }
spans_alone first es t k xs is =
    let kept : with_room_on t.rooms k (room_on t.rooms k) ≡ t.rooms =
    subst (λ (u : KeptStacks). with_room_on u.rooms k (room_on u.rooms k) ≡ u.rooms) is (room_kept first es k) in
    λ i. record { stacks = with_stack_on t.stacks k xs; rooms = kept i }

pub room_alone : (first : HeldStack) (es : List (ℕ × HeldStack)) (t : KeptStacks) (k n : ℕ)
    → stacks_with first es ≡ t → stacks_then t k (record { spans = stack_on t.stacks k; room = n }) ≡ record t { rooms = with_room_on t.rooms k n }
room_alone first es t k n is =
    let kept : with_stack_on t.stacks k (stack_on t.stacks k) ≡ t.stacks =
    subst (λ (u : KeptStacks). with_stack_on u.stacks k (stack_on u.stacks k) ≡ u.stacks) is (stack_kept first es k) in
    λ i. record { stacks = kept i; rooms = with_room_on t.rooms k n }

-- what holds of a lane's stack and its room holds of what the lane has
pub first_holds : (P : HeldStack → Type 0) (first : HeldStack) (es : List (ℕ × HeldStack)) (t : KeptStacks) (k : ℕ) → stacks_with first es ≡ t → k ≡ 0
    → P first → P (held_in t k)
first_holds P first es t k is zero_is =
    subst P (sym (held_first first es) ∙ ap (λ (v : KeptStacks). held_in v 0) is ∙ ap (held_in t) (sym zero_is))

pub other_holds : {H : Type 0} (P : HeldStack → Type 0) (first : HeldStack) (m : HashMap ℕ HeldStack H) (t : KeptStacks) (lane : Lane)
    → stacks_with first m.entries ≡ t → ¬ (lane.0 ≡ 0) → P (held_on m lane) → P (held_in t lane.0)
other_holds P first m t lane is other =
    subst P (sym (held_other first m lane other) ∙ ap (λ (v : KeptStacks). held_in v lane.0) is)

-- a stack with no more room has the room that it has
pub room_same : (first : HeldStack) (es : List (ℕ × HeldStack)) (t : KeptStacks) (k n : ℕ) → stacks_with first es ≡ t → n ≡ 0
    → t ≡ record t { rooms = with_room_on t.rooms k (max (room_on t.rooms k) n) }
room_same first es t k n is none =
    let kept : with_room_on t.rooms k (room_on t.rooms k) ≡ t.rooms =
    subst (λ (u : KeptStacks). with_room_on u.rooms k (room_on u.rooms k) ≡ u.rooms) is (room_kept first es k) in
    let most : max (room_on t.rooms k) n ≡ room_on t.rooms k = ap (max (room_on t.rooms k)) none ∙ max-zero (room_on t.rooms k) in
    λ i. record t { rooms = sym (ap (with_room_on t.rooms k) most ∙ kept) i }
