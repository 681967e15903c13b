-- Stores that agree: they are seen alike, they still agree after a step that both take, and each can be cut down.
use Rattle.std.proofs.Common.{◌≡◌, ℕ, ◌+◌, ◌-◌, ◌<◌, Bool, true, false, cond, not, ◌&&◌, IsTrue, List, [], ◌∷◌, map, Option, None, Some, IfSome, refl, sym, ap}
use Rattle.std.proofs.Common.{subst, ◌∙◌, inl, inr}
use Rattle.std.proofs.lemmas.Bool.{and_parts}
use Rattle.std.specs.Prelude.{⊤}
use Rattle.std.specs.Cmp.{nat_cmp_total}
use Rattle.std.specs.FinMap.{empty, entries, find, from_entries, get, get-entries, get-from_entries, get-insert, get-remove, insert, remove}
use Rattle.std.specs.FinSet.{FinSet, insert as add}
use Rattle.std.specs.List.{AllByRecursion}
use Rattle.std.specs.Option.{option_map, option_map_or}
use Rattle.std.specs.Ordering.{eq_by_cmp, nat_cmp}
use Rattle.span_core.proofs.FilterLemmas.{cut_verdict}
use Rattle.span_core.proofs.SomeBelow.{some_below-same}
use Rattle.span_core.specs.Filters.{FilterSet, meets, refuses}
use Rattle.span_core.specs.Span.{number_of}
use Rattle.span_core.specs.declared.filter.FilterMap.{FilterMap}
use Rattle.span_core.specs.declared.number_set.TheConstants.{LIMIT}
use Rattle.span_core.specs.declared.span.Id.{Id}
use Rattle.span_core.specs.declared.span.Lane.{Lane}
use Rattle.span_core.specs.declared.span.Parent.TheVariants.{Contextual, Explicit, Root}
use Rattle.span_core.specs.declared.span.Parent.{Parent}
use Rattle.span_extensions.specs.declared.extensions.ExtensionMap.{ExtensionMap}
use Rattle.span_store.specs.Closes.{Closes, IsDeepestFirst, IsUnheld, remove_all, without}
use Rattle.span_store.specs.LaneStack.{leave}
use Rattle.span_store.specs.Step.{IsContext, IsParentFor, entered, entered_last, exited}
use Rattle.span_store.specs.Store.{HasChild, IsChain, IsClosing, IsHeld, IsOpen, RegistryState, Span, Spans, Stacks, Store, add_handle, stack_on, take_handle}
use Rattle.span_store.specs.Store.{with_handles, with_stack_on}
use Rattle.span_store.proofs.Closing.{IsBelow}
use Rattle.span_registry.specs.Agree.{AgreeAt, IsCutDown, known_to}
use Rattle.span_registry.specs.Behaviour.{AreAlike, unextended}
use Rattle.span_registry.specs.Plan.{is_passed}
use Rattle.span_registry.specs.Subscriber.{SameButExtensions}
use Rattle.span_registry.specs.View.{see, view_of}
use Rattle.span_registry.proofs.Ancestry.{seen_at}

-- ---- what stands at a number in both
-- of these filters, the same refused

abbrev pub VerdictsAgree : FilterSet → FilterMap → FilterMap → Type 0
VerdictsAgree numbers v w = (n : ℕ) → IsTrue (numbers n) → refuses v n ≡ refuses w n

-- the two are the same but for their verdicts, and of these filters the same refused both
pub record SpansAgree (numbers : FilterSet) (r q : Span) : Type 0 where
  pub metadata : r.metadata ≡ q.metadata
  pub parent : r.parent ≡ q.parent
  pub handles : r.handles ≡ q.handles
  pub verdict : VerdictsAgree numbers r.verdict q.verdict

-- neither is there, or both are, and agree
abbrev pub PlacesAgree : FilterSet → Option Span → Option Span → Type 0
PlacesAgree numbers None None = ⊤
PlacesAgree numbers (Some r) (Some q) = SpansAgree numbers r q
PlacesAgree numbers o other = ⊥

-- the maps agree at each number
abbrev pub MapsAgree : FilterSet → Spans → Spans → Type 0
MapsAgree numbers m n = (x : ℕ) → PlacesAgree numbers (get m x) (get n x)

place_back : (numbers : FilterSet) (a b : Option Span) → PlacesAgree numbers a b → PlacesAgree numbers b a
place_back numbers None None h = tt
place_back numbers None (Some q) h = absurd h
place_back numbers (Some r) None h = absurd h
place_back numbers (Some r) (Some q) h =
    record { metadata = sym h.metadata; parent = sym h.parent; handles = sym h.handles; verdict = λ n t. sym (h.verdict n t) }

maps_back : (numbers : FilterSet) (m n : Spans) → MapsAgree numbers m n → MapsAgree numbers n m
maps_back numbers m n f = λ x. place_back numbers (get m x) (get n x) (f x)

found : (numbers : FilterSet) (a b : Option Span) (r : Span) → PlacesAgree numbers a b → a ≡ Some r → (q : Span) × (b ≡ Some q) × SpansAgree numbers r q
found numbers None b r h e = let not_so : ⊥ = cc in absurd not_so
found numbers (Some w) None r h e = absurd h
found numbers (Some w) (Some q) r h e = let same : w ≡ r = cc in (q, refl, subst (λ (v : Span). SpansAgree numbers v q) same h)

-- ---- agreement

same_member : (a b c : Bool) → (IsTrue a → b ≡ c) → (a && b) ≡ (a && c)
same_member true b c h = h refl
same_member false b c h = refl

-- what filters can tell of two spans is the same exactly where these agree
place_from : (numbers : FilterSet) (a b : Option Span) → option_map (known_to numbers) a ≡ option_map (known_to numbers) b → PlacesAgree numbers a b
place_from numbers None None e = tt
place_from numbers None (Some q) e = let not_so : ⊥ = cc in absurd not_so
place_from numbers (Some r) None e = let not_so : ⊥ = cc in absurd not_so
place_from numbers (Some r) (Some q) e =
    let same : known_to numbers r ≡ known_to numbers q = cc in
    record {
      metadata = λ i. (same i).0;
      parent = λ i. (same i).1;
      handles = λ i. (same i).2;
      verdict = λ n t. sym (ap (λ (b : Bool). b && refuses r.verdict n) t) ∙ (λ i. (same i).3 n) ∙ ap (λ (b : Bool). b && refuses q.verdict n) t;
    }

place_so : (numbers : FilterSet) (a b : Option Span) → PlacesAgree numbers a b → option_map (known_to numbers) a ≡ option_map (known_to numbers) b
place_so numbers None None h = refl
place_so numbers None (Some q) h = absurd h
place_so numbers (Some r) None h = absurd h
place_so numbers (Some r) (Some q) h =
    λ i. Some (h.metadata i, h.parent i, h.handles i, λ n. same_member (numbers n) (refuses r.verdict n) (refuses q.verdict n) (h.verdict n) i)

pub places_of : (numbers : FilterSet) (s t : Store) → AgreeAt numbers s t → MapsAgree numbers s.spans t.spans
places_of numbers s t h x = place_from numbers (get s.spans x) (get t.spans x) (h.spans x)

agree_by : (numbers : FilterSet) (s t : Store) → MapsAgree numbers s.spans t.spans → s.issued ≡ t.issued → s.stacks ≡ t.stacks → AgreeAt numbers s t
agree_by numbers s t f issued stacks = record { spans = λ x. place_so numbers (get s.spans x) (get t.spans x) (f x); issued = issued; stacks = stacks }

-- each store agrees with itself
pub agree_refl : (numbers : FilterSet) (s : Store) → AgreeAt numbers s s
agree_refl numbers s = record { spans = λ x. refl; issued = refl; stacks = refl }

-- it goes both ways
pub agree_sym : (numbers : FilterSet) (s t : Store) → AgreeAt numbers s t → AgreeAt numbers t s
agree_sym numbers s t h = record { spans = λ x. sym (h.spans x); issued = sym h.issued; stacks = sym h.stacks }

-- and on
pub agree_trans : (numbers : FilterSet) (s t u : Store) → AgreeAt numbers s t → AgreeAt numbers t u → AgreeAt numbers s u
agree_trans numbers s t u h k = record {
  spans = λ x. h.spans x ∙ k.spans x;
  issued = h.issued ∙ k.issued;
  stacks = h.stacks ∙ k.stacks;
}

-- extensions make no difference
pub agree_aside : (numbers : FilterSet) (v w : RegistryState) → SameButExtensions v w → AgreeAt numbers v.store w.store
agree_aside numbers v w h = record {
  spans = λ x. ap (λ (m : Spans). option_map (known_to numbers) (get m x)) (sym h.spans);
  issued = sym h.issued;
  stacks = sym h.stacks;
}

-- ---- what is seen
-- filters among these hide the same

pub same_hidden : (numbers set : FilterSet) (v w : FilterMap)
    → VerdictsAgree numbers v w → ((n : ℕ) → IsTrue (set n) → IsTrue (numbers n)) → meets set (refuses v) ≡ meets set (refuses w)
same_hidden numbers set v w h i =
    some_below-same LIMIT (λ n. set n && refuses v n) (λ n. set n && refuses w n) (λ n l. same_member (set n) (refuses v n) (refuses w n) (λ t. h n (i n t)))

seen_alike : (numbers mask : FilterSet) (a b : Option Span) (e f : Option ExtensionMap)
    → PlacesAgree numbers a b → ((n : ℕ) → IsTrue (mask n) → IsTrue (numbers n))
    → option_map unextended (option_map (λ r. see mask r e) a) ≡ option_map unextended (option_map (λ r. see mask r f) b)
seen_alike numbers mask None None e f h i = refl
seen_alike numbers mask None (Some q) e f h i = absurd h
seen_alike numbers mask (Some r) None e f h i = absurd h
seen_alike numbers mask (Some r) (Some q) e f h i =
    let hidden : meets mask (refuses r.verdict) ≡ meets mask (refuses q.verdict) = same_hidden numbers mask r.verdict q.verdict h.verdict i in
    λ j. Some (record { metadata = h.metadata j; parent = h.parent j; hidden = hidden j; extensions = None })

-- under a mask among the filters the stores are seen alike
pub views_alike : (numbers mask : FilterSet) (s t : Store) (lane : ℕ)
    → AgreeAt numbers s t → ((n : ℕ) → IsTrue (mask n) → IsTrue (numbers n)) → AreAlike (view_of s lane mask) (view_of t lane mask)
views_alike numbers mask s t lane h i = record {
  lane = refl;
  stack = ap (λ (m : Stacks). stack_on m lane) h.stacks;
  spans = λ x.
      ap (option_map unextended) (seen_at s mask x)
      ∙ seen_alike numbers mask (get s.spans x) (get t.spans x) (get s.extensions x) (get t.extensions x) (places_of numbers s t h x) i
      ∙ ap (option_map unextended) (sym (seen_at t mask x));
}

place_passed : (numbers set : FilterSet) (a b : Option Span) → PlacesAgree numbers a b → ((n : ℕ) → IsTrue (set n) → IsTrue (numbers n))
    → option_map_or (λ (r : Span). not (meets set (refuses r.verdict))) a false ≡ option_map_or (λ (r : Span). not (meets set (refuses r.verdict))) b false
place_passed numbers set None None h i = refl
place_passed numbers set None (Some q) h i = absurd h
place_passed numbers set (Some r) None h i = absurd h
place_passed numbers set (Some r) (Some q) h i = ap not (same_hidden numbers set r.verdict q.verdict h.verdict i)

-- filters among these pass the same spans
pub passed_alike : (numbers set : FilterSet) (s t : Store) (id : Id)
    → AgreeAt numbers s t → ((n : ℕ) → IsTrue (set n) → IsTrue (numbers n)) → is_passed s.spans set id ≡ is_passed t.spans set id
passed_alike numbers set s t id h i =
    place_passed numbers set (get s.spans (number_of id)) (get t.spans (number_of id)) (places_of numbers s t h (number_of id)) i

-- ---- the parent that a new span gets

child_over : (numbers : FilterSet) (m n : Spans) (x : ℕ) → MapsAgree numbers m n → HasChild m x → HasChild n x
child_over numbers m n x f h = let u = found numbers (get m h.0) (get n h.0) h.1 (f h.0) h.2 in (h.0, u.0, u.1, sym u.2.parent ∙ h.3)

open_over : (numbers : FilterSet) (m n : Spans) (x : ℕ) → MapsAgree numbers m n → IsOpen m x → IsOpen n x
open_over numbers m n x f h =
    let u = found numbers (get m x) (get n x) h.0 (f x) h.1 in (
      u.0,
      u.1,
      elim h.2 [
        | inl k ↦ inl (subst (λ (k : ℕ). 0 < k) u.2.handles k)
        | inr c ↦ inr (child_over numbers m n x f c)
      ],
    )

-- what is open in the one is open in the other, and so is what isn't
pub open_alike : (numbers : FilterSet) (s t : Store) (x : ℕ) → AgreeAt numbers s t → IsOpen s.spans x → IsOpen t.spans x
open_alike numbers s t x h o = open_over numbers s.spans t.spans x (places_of numbers s t h) o

pub not_open_alike : (numbers : FilterSet) (s t : Store) (x : ℕ) → AgreeAt numbers s t → ¬ (IsOpen s.spans x) → ¬ (IsOpen t.spans x)
not_open_alike numbers s t x h k o = k (open_over numbers t.spans s.spans x (maps_back numbers s.spans t.spans (places_of numbers s t h)) o)

-- what is closing in the one is closing in the other
pub closing_alike : (numbers : FilterSet) (s t : Store) (x : ℕ) → AgreeAt numbers s t → IsClosing s.spans x → IsClosing t.spans x
closing_alike numbers s t x h k =
    let u = found numbers (get s.spans x) (get t.spans x) k.0 (places_of numbers s t h x) k.1 in
    (u.0, u.1, sym u.2.handles ∙ k.2, λ c. k.3 (child_over numbers t.spans s.spans x (maps_back numbers s.spans t.spans (places_of numbers s t h)) c))

-- what is held in the one is held in the other
pub held_alike : (numbers : FilterSet) (s t : Store) (x : ℕ) → AgreeAt numbers s t → IsHeld s.spans x → IsHeld t.spans x
held_alike numbers s t x h k =
    let u = found numbers (get s.spans x) (get t.spans x) k.0 (places_of numbers s t h x) k.1 in
    (u.0, u.1, subst (λ (n : ℕ). 0 < n) u.2.handles k.2)

last_same : (s t : Store) (lane : ℕ) → s.stacks ≡ t.stacks → entered_last s lane ≡ entered_last t lane
last_same s t lane e = ap (λ (m : Stacks). entered_last (record s { stacks = m }) lane) e

none_over : (a b : Option ℕ) (P Q : ℕ → Type 0) → a ≡ b → ((x : ℕ) → P x → Q x) → IfSome a P → IfSome b Q
none_over a None P Q e f h = tt
none_over None (Some y) P Q e f h = let not_so : ⊥ = cc in absurd not_so
none_over (Some x) (Some y) P Q e f h = let same : x ≡ y = cc in subst Q same (f x h)

context_over : (numbers : FilterSet) (s t : Store) (lane : Lane) (o : Option ℕ) → AgreeAt numbers s t → IsContext s lane o → IsContext t lane o
context_over numbers s t lane (Some x) h c = (sym (last_same s t lane.0 h.stacks) ∙ c.0, open_over numbers s.spans t.spans x (places_of numbers s t h) c.1)
context_over numbers s t lane None h c =
    none_over (entered_last s lane.0) (entered_last t lane.0) (λ x. IsOpen s.spans x → ⊥) (λ x. IsOpen t.spans x → ⊥) (last_same s t lane.0 h.stacks)
    (λ x k o. k (open_over numbers t.spans s.spans x (maps_back numbers s.spans t.spans (places_of numbers s t h)) o)) c

-- what the one gives a new span as its parent, the other gives it too
pub parent_alike : (numbers : FilterSet) (s t : Store) (lane : Lane) (asked : Parent) (o : Option ℕ)
    → AgreeAt numbers s t → IsParentFor s lane asked o → IsParentFor t lane asked o
parent_alike numbers s t lane Root o h c = c
parent_alike numbers s t lane Contextual o h c = context_over numbers s t lane o h c
parent_alike numbers s t lane (Explicit x) o h c = (c.0, open_over numbers s.spans t.spans (number_of x) (places_of numbers s t h) c.1)

-- ---- steps: spans put in and taken out

placed : (numbers : FilterSet) (a b c d : Option Span) → a ≡ c → b ≡ d → PlacesAgree numbers c d → PlacesAgree numbers a b
placed numbers a b c d e f h = subst (λ (o : Option Span). PlacesAgree numbers o b) (sym e) (subst (λ (o : Option Span). PlacesAgree numbers c o) (sym f) h)

at_put : (numbers : FilterSet) (k : Bool) (r q : Span) (a b : Option Span)
    → SpansAgree numbers r q → PlacesAgree numbers a b → PlacesAgree numbers (cond k (Some r) a) (cond k (Some q) b)
at_put numbers true r q a b h k = h
at_put numbers false r q a b h k = k

put_agrees : (numbers : FilterSet) (m n : Spans) (x : ℕ) (r q : Span)
    → SpansAgree numbers r q → MapsAgree numbers m n → MapsAgree numbers (insert m x r) (insert n x q)
put_agrees numbers m n x r q h f = λ y.
    placed numbers
    (get (insert m x r) y) (get (insert n x q) y) (cond (eq_by_cmp nat_cmp y x) (Some r) (get m y)) (cond (eq_by_cmp nat_cmp y x) (Some q) (get n y))
    (get-insert nat_cmp_total m x r y) (get-insert nat_cmp_total n x q y) (at_put numbers (eq_by_cmp nat_cmp y x) r q (get m y) (get n y) h (f y))

at_gone : (numbers : FilterSet) (k : Bool) (a b : Option Span) → PlacesAgree numbers a b → PlacesAgree numbers (cond k None a) (cond k None b)
at_gone numbers true a b h = tt
at_gone numbers false a b h = h

gone_agrees : (numbers : FilterSet) (m n : Spans) (x : ℕ) → MapsAgree numbers m n → MapsAgree numbers (remove m x) (remove n x)
gone_agrees numbers m n x f = λ y.
    placed numbers (get (remove m x) y) (get (remove n x) y) (cond (eq_by_cmp nat_cmp y x) None (get m y)) (cond (eq_by_cmp nat_cmp y x) None (get n y))
    (get-remove nat_cmp_total m x y) (get-remove nat_cmp_total n x y) (at_gone numbers (eq_by_cmp nat_cmp y x) (get m y) (get n y) (f y))

all_gone_agrees : (numbers : FilterSet) (m n : Spans) (xs : List ℕ) → MapsAgree numbers m n → MapsAgree numbers (remove_all m xs) (remove_all n xs)
all_gone_agrees numbers m n [] f = f
all_gone_agrees numbers m n (x ∷ xs) f = all_gone_agrees numbers (remove m x) (remove n x) xs (gone_agrees numbers m n x f)

handles_agree : (numbers : FilterSet) (g : ℕ → ℕ) (m n : Spans) (x : ℕ) (a b : Option Span)
    → PlacesAgree numbers a b → MapsAgree numbers m n → MapsAgree numbers (with_handles g m x a) (with_handles g n x b)
handles_agree numbers g m n x None None h f = f
handles_agree numbers g m n x None (Some q) h f = absurd h
handles_agree numbers g m n x (Some r) None h f = absurd h
handles_agree numbers g m n x (Some r) (Some q) h f =
    put_agrees numbers m n x (record r { handles = g r.handles }) (record q { handles = g q.handles })
    (record { metadata = h.metadata; parent = h.parent; handles = ap g h.handles; verdict = h.verdict }) f

-- ---- steps that both stores take
-- spans that agree are put in, whatever the first store then has of extensions

pub new_agrees_with : (numbers : FilterSet) (s t u : Store) (x : ℕ) (r q : Span) → AgreeAt numbers s t → SpansAgree numbers r q
    → u.spans ≡ insert s.spans x r
    → u.issued ≡ add s.issued x → u.stacks ≡ s.stacks → AgreeAt numbers u (record t { spans = insert t.spans x q; issued = add t.issued x })
new_agrees_with numbers s t u x r q h k spans issued stacks = agree_by numbers u (record t { spans = insert t.spans x q; issued = add t.issued x })
    (subst (λ (m : Spans). MapsAgree numbers m (insert t.spans x q)) (sym spans) (put_agrees numbers s.spans t.spans x r q k (places_of numbers s t h)))
    (issued ∙ ap (λ (ids : FinSet nat_cmp). add ids x) h.issued)
    (stacks ∙ h.stacks)

-- and where it has what it had
pub new_agrees : (numbers : FilterSet) (s t : Store) (x : ℕ) (r q : Span) → AgreeAt numbers s t → SpansAgree numbers r q
    → AgreeAt numbers (record s { spans = insert s.spans x r; issued = add s.issued x }) (record t { spans = insert t.spans x q; issued = add t.issued x })
new_agrees numbers s t x r q h k = new_agrees_with numbers s t (record s { spans = insert s.spans x r; issued = add s.issued x }) x r q h k refl refl refl

pub entered_agrees : (numbers : FilterSet) (s t : Store) (lane x : ℕ) → AgreeAt numbers s t → AgreeAt numbers (entered s lane x) (entered t lane x)
entered_agrees numbers s t lane x h =
    record { spans = h.spans; issued = h.issued; stacks = ap (λ (m : Stacks). with_stack_on m lane (x ∷ stack_on m lane)) h.stacks }

pub exited_agrees : (numbers : FilterSet) (s t : Store) (lane x : ℕ) → AgreeAt numbers s t → AgreeAt numbers (exited s lane x) (exited t lane x)
exited_agrees numbers s t lane x h =
    record { spans = h.spans; issued = h.issued; stacks = ap (λ (m : Stacks). with_stack_on m lane (leave x (stack_on m lane))) h.stacks }

pub added_agrees : (numbers : FilterSet) (s t : Store) (x : ℕ)
    → AgreeAt numbers s t → AgreeAt numbers (record s { spans = add_handle s.spans x }) (record t { spans = add_handle t.spans x })
added_agrees numbers s t x h = agree_by numbers (record s { spans = add_handle s.spans x }) (record t { spans = add_handle t.spans x })
    (handles_agree numbers (λ n. n + 1) s.spans t.spans x (get s.spans x) (get t.spans x) (places_of numbers s t h x) (places_of numbers s t h)) h.issued
    h.stacks

pub taken_agrees : (numbers : FilterSet) (s t : Store) (x : ℕ)
    → AgreeAt numbers s t → AgreeAt numbers (record s { spans = take_handle s.spans x }) (record t { spans = take_handle t.spans x })
taken_agrees numbers s t x h = agree_by numbers (record s { spans = take_handle s.spans x }) (record t { spans = take_handle t.spans x })
    (handles_agree numbers (λ n. n - 1) s.spans t.spans x (get s.spans x) (get t.spans x) (places_of numbers s t h x) (places_of numbers s t h)) h.issued
    h.stacks

pub without_agrees : (numbers : FilterSet) (s t : Store) (xs : List ℕ) → AgreeAt numbers s t → AgreeAt numbers (without s xs) (without t xs)
without_agrees numbers s t xs h =
    agree_by numbers (without s xs) (without t xs) (all_gone_agrees numbers s.spans t.spans xs (places_of numbers s t h)) h.issued h.stacks

-- ---- what a drop closes

chain_over : (numbers : FilterSet) (m n : Spans) (o : Option ℕ) (xs : List ℕ) → MapsAgree numbers m n → IsChain m o xs → IsChain n o xs
chain_over numbers m n None [] f c = c
chain_over numbers m n None (y ∷ ys) f c = absurd c
chain_over numbers m n (Some x) [] f c = absurd c
chain_over numbers m n (Some x) (y ∷ ys) f c =
    let u = found numbers (get m x) (get n x) c.1 (f x) c.2 in
    (c.0, u.0, u.1, subst (λ (o : Option ℕ). IsChain n o ys) u.2.parent (chain_over numbers m n c.1.parent ys f c.3))

unheld_over : (numbers : FilterSet) (m n : Spans) (x : ℕ) → MapsAgree numbers m n → IsUnheld m x → IsUnheld n x
unheld_over numbers m n x f h =
    let g = maps_back numbers m n f in
    let there = found numbers (get m x) (get n x) h.0.0 (f x) h.0.1 in (
      (there.0, there.1),
      λ y q w e.
          let back = found numbers (get n y) (get m y) q (g y) e in
          back.2.handles ∙ h.1 y back.0 (w.0, chain_over numbers n m (Some y) w.0 g w.1, w.2) back.1,
    )

below_over : (numbers : FilterSet) (m n : Spans) (x : ℕ) (ys : List ℕ)
    → MapsAgree numbers m n → AllByRecursion (IsBelow m x) ys → AllByRecursion (IsBelow n x) ys
below_over numbers m n x [] f h = h
below_over numbers m n x (y ∷ ys) f h =
    let w = h.0.0 in
    (((w.0, chain_over numbers m n (Some x) w.0 f w.1, w.2), h.0.1), below_over numbers m n x ys f h.1)

order_over : (numbers : FilterSet) (m n : Spans) (xs : List ℕ) → MapsAgree numbers m n → IsDeepestFirst m xs → IsDeepestFirst n xs
order_over numbers m n [] f h = h
order_over numbers m n (x ∷ xs) f h = (below_over numbers m n x xs f h.0, order_over numbers m n xs f h.1)

-- a drop closes the same spans in both, in the same order
pub closes_alike : (numbers : FilterSet) (s t : Store) (x : ℕ) (closed : List ℕ) → AgreeAt numbers s t → Closes s.spans x closed → Closes t.spans x closed
closes_alike numbers s t x closed h c =
    let f = places_of numbers (record s { spans = take_handle s.spans x }) (record t { spans = take_handle t.spans x }) (taken_agrees numbers s t x h) in
    let g = maps_back numbers (take_handle s.spans x) (take_handle t.spans x) f in
    record {
      exact = λ y. (
        λ k. unheld_over numbers (take_handle s.spans x) (take_handle t.spans x) y f ((c.exact y).0 k),
        λ u. (c.exact y).1 (unheld_over numbers (take_handle t.spans x) (take_handle s.spans x) y g u),
      );
      order = order_over numbers (take_handle s.spans x) (take_handle t.spans x) closed f c.order;
    }

-- ---- fewer filters

place_within : (numbers set : FilterSet) (a b : Option Span) → ((n : ℕ) → IsTrue (set n) → IsTrue (numbers n)) → PlacesAgree numbers a b → PlacesAgree set a b
place_within numbers set None None i h = tt
place_within numbers set None (Some q) i h = absurd h
place_within numbers set (Some r) None i h = absurd h
place_within numbers set (Some r) (Some q) i h = record { metadata = h.metadata; parent = h.parent; handles = h.handles; verdict = λ n t. h.verdict n (i n t) }

-- stores that agree as far as some filters go agree as far as fewer go
pub agree_within : (numbers set : FilterSet) (s t : Store) → ((n : ℕ) → IsTrue (set n) → IsTrue (numbers n)) → AgreeAt numbers s t → AgreeAt set s t
agree_within numbers set s t i h =
    agree_by set s t (λ x. place_within numbers set (get s.spans x) (get t.spans x) i (places_of numbers s t h x)) h.issued h.stacks

-- ---- a store cut down
-- the span with its verdict cut down

abbrev cut_span : FilterSet → Span → Span
cut_span numbers r = record r { verdict = (cut_verdict numbers r.verdict).0 }

-- each span so
abbrev cut_each : FilterSet → List (ℕ × Span) → List (ℕ × Span)
cut_each numbers es = map (λ e. (e.0, cut_span numbers e.1)) es

found_cut : (numbers : FilterSet) (x : ℕ) (es : List (ℕ × Span)) → find nat_cmp x (cut_each numbers es) ≡ option_map (cut_span numbers) (find nat_cmp x es)
found_cut numbers x [] = refl
found_cut numbers x (e ∷ es) =
    elim (eq_by_cmp nat_cmp x e.0) as (λ b.
    cond b (Some (cut_span numbers e.1)) (find nat_cmp x (cut_each numbers es)) ≡ option_map (cut_span numbers) (cond b (Some e.1) (find nat_cmp x es))) [
      | true ↦ refl
      | false ↦ found_cut numbers x es
    ]

-- the spans, each with its verdict cut down
abbrev cut_spans : FilterSet → Spans → Spans
cut_spans numbers m = from_entries (cut_each numbers (entries m))

cut_at : (numbers : FilterSet) (m : Spans) (x : ℕ) → get (cut_spans numbers m) x ≡ option_map (cut_span numbers) (get m x)
cut_at numbers m x = get-from_entries nat_cmp_total (cut_each numbers (entries m)) x
    ∙ found_cut numbers x (entries m) ∙ ap (option_map (cut_span numbers)) (sym (get-entries m x))

place_cut : (numbers : FilterSet) (o : Option Span) → PlacesAgree numbers o (option_map (cut_span numbers) o)
place_cut numbers None = tt
place_cut numbers (Some r) = record {
  metadata = refl;
  parent = refl;
  handles = refl;
  verdict = λ n t. sym ((cut_verdict numbers r.verdict).1 n ∙ ap (λ (b : Bool). b && refuses r.verdict n) t);
}

no_other : (numbers : FilterSet) (o : Option Span) (r : Span) (n : ℕ)
    → option_map (cut_span numbers) o ≡ Some r → IsTrue (refuses r.verdict n) → IsTrue (numbers n)
no_other numbers None r n e t = let not_so : ⊥ = cc in absurd not_so
no_other numbers (Some q) r n e t =
    let same : cut_span numbers q ≡ r = cc in
    let both : (numbers n && refuses q.verdict n) ≡ true = sym ((cut_verdict numbers q.verdict).1 n) ∙ ap (λ (w : Span). refuses w.verdict n) same ∙ t in
    (and_parts (numbers n) (refuses q.verdict n) both).0

-- each store can be cut down to any set of filters
pub has_cut : (numbers : FilterSet) (s : Store) → (t : Store) × IsCutDown numbers s t
has_cut numbers s = (
  record s { spans = cut_spans numbers s.spans; extensions = empty },
  record {
    agree = agree_by numbers s (record s { spans = cut_spans numbers s.spans; extensions = empty })
        (λ x. subst (λ (o : Option Span). PlacesAgree numbers (get s.spans x) o) (sym (cut_at numbers s.spans x)) (place_cut numbers (get s.spans x))) refl
        refl;
    verdicts = λ x r n e t. no_other numbers (get s.spans x) r n (sym (cut_at numbers s.spans x) ∙ e) t;
    extensions = refl;
  },
)
