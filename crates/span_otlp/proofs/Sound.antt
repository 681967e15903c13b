-- What happens to spans, one thing after the other.
use Rattle.std.proofs.Common.{◌≡◌, ◌∙◌, ◌==◌, ◌<◌, ℕ, zero, suc, Bool, true, false, List, [], ◌∷◌, ◌++◌, Option, Some, None, ap, append_assoc, arith, filter}
use Rattle.std.proofs.Common.{fold, get_or, inl, inr, length, refl, subst, sym, ◌⊎◌, ⊎_elim}
use Rattle.std.proofs.lemmas.Bool.{cases_Bool, eqb-true, false≢true, ne_eqb, eq-eqb}
use Rattle.std.proofs.lemmas.List.Elements.{Contains-append_cases}
use Rattle.std.proofs.lemmas.List.Folds.{list_any-append}
use Rattle.std.proofs.lemmas.List.Sums.{fold-append}
use Rattle.std.proofs.lemmas.List.{append-nil}
use Rattle.std.specs.List.{Contains, list_any}
use Rattle.std.specs.Option.{option_map_or}
use Rattle.std.specs.Prelude.{◌||◌, ◌&&◌, cond, if◌then◌else◌, MatchOption, ⊤}
use Rattle.span_core.specs.Span.{id_of, number_of}
use Rattle.span_core.specs.declared.span.Id.{Id}
use Rattle.span_times.specs.declared.happening.Happening.TheVariants.{Closed, Entered, Followed, Left, Opened, Recorded, Renamed, Sent}
use Rattle.span_times.specs.declared.happening.Happening.{Happening}
use Rattle.span_otlp.specs.Root.{root_after, root_in}
use Rattle.span_times.specs.Finished.{closed_after}
use Rattle.span_times.specs.Measure.{is_opening, opens}
use Rattle.span_otlp.specs.Shared.{ChildrenHaveTheirParentsRoot, RootsAreTheirOwn}
use Rattle.span_otlp.specs.Sound.{AreSound, CanFollow, CanHappen, has_closed, has_opened}

-- what changes nothing of which spans are open, and of their roots
pub record Quiet (h : Happening) : Type 0 where
  pub unopened : (x : ℕ) → opens x h ≡ false
  pub closed : (x : ℕ) (b : Bool) → closed_after x b h ≡ b
  pub root : (r : ℕ → ℕ) (x : ℕ) → root_after h r x ≡ r x
  pub can : (hs : List Happening) → CanHappen hs h
  pub opening : is_opening h ≡ false

-- a span opens, a span closes, or neither
pub by_kind : (Q : Happening → Type 0) → ((id : Id) (callsite : ℕ) (parent : Option Id) → Q (Opened id callsite parent)) → ((id : Id) → Q (Closed id))
    → ((h : Happening) → Quiet h → Q h) → (h : Happening) → Q h
by_kind Q o c q (Opened id callsite parent) = o id callsite parent
by_kind Q o c q (Recorded a) = q (Recorded a) (record { unopened = λ x. refl; closed = λ x b. refl; root = λ r x. refl; can = λ hs. tt; opening = refl })
by_kind Q o c q (Followed a b) = q (Followed a b) (record { unopened = λ x. refl; closed = λ x b. refl; root = λ r x. refl; can = λ hs. tt; opening = refl })
by_kind Q o c q (Sent a b) = q (Sent a b) (record { unopened = λ x. refl; closed = λ x b. refl; root = λ r x. refl; can = λ hs. tt; opening = refl })
by_kind Q o c q (Entered a) = q (Entered a) (record { unopened = λ x. refl; closed = λ x b. refl; root = λ r x. refl; can = λ hs. tt; opening = refl })
by_kind Q o c q (Left a) = q (Left a) (record { unopened = λ x. refl; closed = λ x b. refl; root = λ r x. refl; can = λ hs. tt; opening = refl })
by_kind Q o c q (Renamed a b) = q (Renamed a b) (record { unopened = λ x. refl; closed = λ x b. refl; root = λ r x. refl; can = λ hs. tt; opening = refl })
by_kind Q o c q (Closed id) = c id

-- ---- one more thing happens

or_nothing : (b : Bool) → (b || false) ≡ b
or_nothing true = refl
or_nothing false = refl

pub opened_behind : (hs : List Happening) (h : Happening) (x : ℕ) → has_opened (hs ++ h ∷ []) x ≡ (has_opened hs x || opens x h)
opened_behind hs h x = list_any-append (opens x) hs (h ∷ []) ∙ ap (λ b. has_opened hs x || b) (or_nothing (opens x h))

pub closed_behind : (hs : List Happening) (h : Happening) (x : ℕ) → has_closed (hs ++ h ∷ []) x ≡ closed_after x (has_closed hs x) h
closed_behind hs h x = fold-append (closed_after x) false hs (h ∷ [])

pub root_behind : (hs : List Happening) (h : Happening) (x : ℕ) → root_in (hs ++ h ∷ []) x ≡ root_after h (root_in hs) x
root_behind hs h x = ap (λ (r : ℕ → ℕ). r x) (fold-append (λ (root : ℕ → ℕ) h. root_after h root) (λ x. x) hs (h ∷ []))

only_at : {A : Type 0} (h e : A) (i : ℕ) → i < 1 → get_or (h ∷ []) i e ≡ e → h ≡ e
only_at h e zero lt same = same
only_at h e (suc i) lt same = absurd (omega arith)

pub only_one : {A : Type 0} (h e : A) → Contains (h ∷ []) e → h ≡ e
only_one h e c = only_at h e c.0 c.1 c.2

-- what stands behind others is the last, or among the others
pub in_front : (hs : List Happening) (h e : Happening) → Contains (hs ++ h ∷ []) e → Contains hs e ⊎ (h ≡ e)
in_front hs h e c = ⊎_elim (λ a. inl a) (λ b. inr (only_one h e b)) (Contains-append_cases hs (h ∷ []) e c)

-- a fact of all that happened, step by step
pub run : (P : List Happening → Type 0) (all : List Happening)
    → ((before : List Happening) (h : Happening) (after : List Happening)
    → before ++ h ∷ after ≡ all → CanFollow before (h ∷ after) → P before → P (before ++ h ∷ []))
    → (before hs : List Happening) → before ++ hs ≡ all → CanFollow before hs → P before → P all
run P all step before [] e can p = subst P (sym (append-nil before) ∙ e) p
run P all step before (h ∷ hs) e can p =
    run P all step (before ++ h ∷ []) hs (append_assoc before (h ∷ []) hs ∙ e) can.1 (step before h hs e can p)

-- ---- what stays

pub differs : (hs : List Happening) (x d : ℕ) → has_opened hs x ≡ true → has_opened hs d ≡ false → (d == x) ≡ false
differs hs x d a b = ne_eqb d x (λ e. false≢true (sym b ∙ ap (has_opened hs) e ∙ a))

pub opened_still : (hs : List Happening) (h : Happening) (x : ℕ) → has_opened hs x ≡ true → has_opened (hs ++ h ∷ []) x ≡ true
opened_still hs h x e = opened_behind hs h x ∙ ap (λ b. b || opens x h) e

opened_now : (hs : List Happening) (id : Id) (callsite : ℕ) (parent : Option Id) → has_opened (hs ++ Opened id callsite parent ∷ []) (number_of id) ≡ true
opened_now hs id callsite parent =
    opened_behind hs (Opened id callsite parent) (number_of id) ∙ ap (λ b. has_opened hs (number_of id) || b) (eq-eqb (number_of id) (number_of id) refl)
    ∙ or_all (has_opened hs (number_of id))
  where
    or_all : (b : Bool) → (b || true) ≡ true
    or_all true = refl
    or_all false = refl

-- another span's opening changes no root
root_beside : (hs : List Happening) (id : Id) (callsite : ℕ) (parent : Option Id) (x : ℕ) → (number_of id == x) ≡ false
    → root_in (hs ++ Opened id callsite parent ∷ []) x ≡ root_in hs x
root_beside hs id callsite parent x e =
    root_behind hs (Opened id callsite parent) x
    ∙ ap (λ b. if b then option_map_or (λ (p : Id). root_in hs (number_of p)) parent x else root_in hs x) e

root_now : (hs : List Happening) (id : Id) (callsite : ℕ) (parent : Option Id)
    → root_in (hs ++ Opened id callsite parent ∷ []) (number_of id) ≡ option_map_or (λ (p : Id). root_in hs (number_of p)) parent (number_of id)
root_now hs id callsite parent =
    root_behind hs (Opened id callsite parent) (number_of id)
    ∙ ap (λ b. if b then option_map_or (λ (p : Id). root_in hs (number_of p)) parent (number_of id) else root_in hs (number_of id))
    (eq-eqb (number_of id) (number_of id) refl)

closed_beside : (hs : List Happening) (id : Id) (callsite : ℕ) (parent : Option Id) (x : ℕ) → (number_of id == x) ≡ false
    → has_closed (hs ++ Opened id callsite parent ∷ []) x ≡ has_closed hs x
closed_beside hs id callsite parent x e =
    closed_behind hs (Opened id callsite parent) x ∙ ap (λ b. if b then false else has_closed hs x) e

-- the root of a span that opened stays
pub root_kept : (h : Happening) (hs : List Happening) (x : ℕ) → CanHappen hs h → has_opened hs x ≡ true → root_in (hs ++ h ∷ []) x ≡ root_in hs x
root_kept = by_kind (λ h. (hs : List Happening) (x : ℕ) → CanHappen hs h → has_opened hs x ≡ true → root_in (hs ++ h ∷ []) x ≡ root_in hs x)
    (λ id callsite parent. λ hs x can opened. root_beside hs id callsite parent x (differs hs x (number_of id) opened can.0))
    (λ id. λ hs x can opened. root_behind hs (Closed id) x)
    (λ h quiet. λ hs x can opened. root_behind hs h x ∙ quiet.root (root_in hs) x)

-- a span that closed stays so
pub closed_kept : (h : Happening) (hs : List Happening) (x : ℕ) → CanHappen hs h → has_opened hs x ≡ true → has_closed hs x ≡ true
    → has_closed (hs ++ h ∷ []) x ≡ true
closed_kept = by_kind (λ h. (hs : List Happening) (x : ℕ) → CanHappen hs h → has_opened hs x ≡ true → has_closed hs x ≡ true
    → has_closed (hs ++ h ∷ []) x ≡ true)
    (λ id callsite parent. λ hs x can opened closed. closed_beside hs id callsite parent x (differs hs x (number_of id) opened can.0) ∙ closed)
    (λ id. λ hs x can opened closed. closed_behind hs (Closed id) x ∙ ap (λ b. if number_of id == x then true else b) closed ∙ either (number_of id == x))
    (λ h quiet. λ hs x can opened closed. closed_behind hs h x ∙ quiet.closed x (has_closed hs x) ∙ closed)
  where
    either : (b : Bool) → (if b then true else true) ≡ true
    either true = refl
    either false = refl

-- what closed had opened
pub closed_opened : (h : Happening) (hs : List Happening) (x : ℕ) → CanHappen hs h → (has_closed hs x ≡ true → has_opened hs x ≡ true)
    → has_closed (hs ++ h ∷ []) x ≡ true → has_opened (hs ++ h ∷ []) x ≡ true
closed_opened = by_kind (λ h. (hs : List Happening) (x : ℕ) → CanHappen hs h → (has_closed hs x ≡ true → has_opened hs x ≡ true)
    → has_closed (hs ++ h ∷ []) x ≡ true → has_opened (hs ++ h ∷ []) x ≡ true)
    (λ id callsite parent. λ hs x can before closed. ⊎_elim
    (λ e. absurd (false≢true (sym (ap (λ b. if b then false else has_closed hs x) e) ∙ sym (closed_behind hs (Opened id callsite parent) x) ∙ closed)))
    (λ e. opened_still hs (Opened id callsite parent) x (before (sym (closed_beside hs id callsite parent x e) ∙ closed)))
    (cases_Bool (number_of id == x)))
    (λ id. λ hs x can before closed. ⊎_elim
    (λ e. opened_still hs (Closed id) x (ap (has_opened hs) (sym (eqb-true (number_of id) x e)) ∙ can.0.0))
    (λ e. opened_still hs (Closed id) x (before (sym (ap (λ b. if b then true else has_closed hs x) e) ∙ sym (closed_behind hs (Closed id) x) ∙ closed)))
    (cases_Bool (number_of id == x)))
    (λ h quiet. λ hs x can before closed. opened_still hs h x (before (sym (quiet.closed x (has_closed hs x)) ∙ sym (closed_behind hs h x) ∙ closed)))

-- ---- what is known of all that happened

pub record Known (hs : List Happening) : Type 0 where
  pub opened : (id : Id) (callsite : ℕ) (parent : Option Id) → Contains hs (Opened id callsite parent) → has_opened hs (number_of id) ≡ true
  pub above : (id p : Id) (callsite : ℕ) → Contains hs (Opened id callsite (Some p)) → has_opened hs (number_of p) ≡ true
  pub child : (id p : Id) (callsite : ℕ) → Contains hs (Opened id callsite (Some p)) → root_in hs (number_of id) ≡ root_in hs (number_of p)
  pub own : (id : Id) (callsite : ℕ) → Contains hs (Opened id callsite None) → root_in hs (number_of id) ≡ number_of id
  pub last : (id p : Id) (callsite : ℕ) → Contains hs (Opened id callsite (Some p)) → has_closed hs (number_of p) ≡ true → has_closed hs (number_of id) ≡ true
  pub once : (x : ℕ) → has_closed hs x ≡ true → has_opened hs x ≡ true

-- a child of one that is open opens
child_now : (hs : List Happening) (id p : Id) (callsite : ℕ) → CanHappen hs (Opened id callsite (Some p))
    → root_in (hs ++ Opened id callsite (Some p) ∷ []) (number_of id) ≡ root_in (hs ++ Opened id callsite (Some p) ∷ []) (number_of p)
child_now hs id p callsite can =
    root_now hs id callsite (Some p) ∙ sym (root_kept (Opened id callsite (Some p)) hs (number_of p) can can.1.0)

last_now : (hs : List Happening) (id p : Id) (callsite : ℕ) → CanHappen hs (Opened id callsite (Some p))
    → has_closed (hs ++ Opened id callsite (Some p) ∷ []) (number_of p) ≡ true → ⊥
last_now hs id p callsite can closed =
    false≢true (sym can.1.1 ∙ sym (closed_beside hs id callsite (Some p) (number_of p) (differs hs (number_of p) (number_of id) can.1.0 can.0)) ∙ closed)

-- of spans that opened before, no parent closes before its child
last_before : (h : Happening) (hs : List Happening) (id p : Id) (callsite : ℕ) → CanHappen hs h → Known hs → Contains hs (Opened id callsite (Some p))
    → has_closed (hs ++ h ∷ []) (number_of p) ≡ true → has_closed hs (number_of id) ≡ true
last_before = by_kind
    (λ h. (hs : List Happening) (id p : Id) (callsite : ℕ) → CanHappen hs h → Known hs → Contains hs (Opened id callsite (Some p))
    → has_closed (hs ++ h ∷ []) (number_of p) ≡ true → has_closed hs (number_of id) ≡ true)
    (λ d k parent. λ hs id p callsite can known among closed.
    known.last id p callsite among
    (sym (closed_beside hs d k parent (number_of p) (differs hs (number_of p) (number_of d) (known.above id p callsite among) can.0)) ∙ closed))
    (λ d. λ hs id p callsite can known among closed. ⊎_elim
    (λ e. can.1 id callsite
    (subst (λ (q : Id). Contains hs (Opened id callsite (Some q))) (ap id_of (sym (eqb-true (number_of d) (number_of p) e))) among))
    (λ e. known.last id
    p callsite among (sym (ap (λ b. if b then true else has_closed hs (number_of p)) e) ∙ sym (closed_behind hs (Closed d) (number_of p)) ∙ closed))
    (cases_Bool (number_of d == number_of p)))
    (λ h quiet. λ hs id p callsite can known among closed.
    known.last id p callsite among (sym (quiet.closed (number_of p) (has_closed hs (number_of p))) ∙ sym (closed_behind hs h (number_of p)) ∙ closed))

pub known_more : (hs : List Happening) (h : Happening) → CanHappen hs h → Known hs → Known (hs ++ h ∷ [])
known_more hs h can known = record {
  opened = λ id callsite parent among. ⊎_elim
      (λ before. opened_still hs h (number_of id) (known.opened id callsite parent before))
      (λ e. subst (λ (g : Happening). has_opened (hs ++ g ∷ []) (number_of id) ≡ true) (sym e) (opened_now hs id callsite parent))
      (in_front hs h (Opened id callsite parent) among);
  above = λ id p callsite among. ⊎_elim
      (λ before. opened_still hs h (number_of p) (known.above id p callsite before))
      (λ e. let now : CanHappen hs (Opened id callsite (Some p)) = subst (CanHappen hs) e can in opened_still hs h (number_of p) now.1.0)
      (in_front hs h (Opened id callsite (Some p)) among);
  child = λ id p callsite among. ⊎_elim
      (λ before. root_kept h hs (number_of id) can (known.opened id callsite (Some p) before) ∙ known.child id p callsite before
      ∙ sym (root_kept h hs (number_of p) can (known.above id p callsite before)))
      (λ e. let now : CanHappen hs (Opened id callsite (Some p)) = subst (CanHappen hs) e can in
      subst (λ (g : Happening). root_in (hs ++ g ∷ []) (number_of id) ≡ root_in (hs ++ g ∷ []) (number_of p)) (sym e) (child_now hs id p callsite now))
      (in_front hs h (Opened id callsite (Some p)) among);
  own = λ id callsite among. ⊎_elim
      (λ before. root_kept h hs (number_of id) can (known.opened id callsite None before) ∙ known.own id callsite before)
      (λ e. subst (λ (g : Happening). root_in (hs ++ g ∷ []) (number_of id) ≡ number_of id) (sym e) (root_now hs id callsite None))
      (in_front hs h (Opened id callsite None) among);
  last = λ id p callsite among closed. ⊎_elim
      (λ before. closed_kept h hs (number_of id) can (known.opened id callsite (Some p) before) (last_before h hs id p callsite can known before closed))
      (λ e. let now : CanHappen hs (Opened id callsite (Some p)) = subst (CanHappen hs) e can in
      absurd (last_now hs id p callsite now (subst (λ (g : Happening). has_closed (hs ++ g ∷ []) (number_of p) ≡ true) e closed)))
      (in_front hs h (Opened id callsite (Some p)) among);
  once = λ x closed. closed_opened h hs x can (known.once x) closed;
}

pub none_among : {A : Type 0} (e : A) → Contains [] e → ⊥
none_among e h = let lt = h.1 in absurd (omega arith)

pub nothing_known : Known []
nothing_known = record {
  opened = λ id callsite parent among. absurd (none_among _ among);
  above = λ id p callsite among. absurd (none_among _ among);
  child = λ id p callsite among. absurd (none_among _ among);
  own = λ id callsite among. absurd (none_among _ among);
  last = λ id p callsite among. absurd (none_among _ among);
  once = λ x closed. absurd (false≢true closed);
}

pub known_of : (hs : List Happening) → AreSound hs → Known hs
known_of hs can = run Known hs (λ before h after e can known. known_more before h can.0 known) [] hs refl can nothing_known

pub children_below : ChildrenHaveTheirParentsRoot
children_below hs child parent callsite can among = (known_of hs can).child child parent callsite among

pub roots_own : RootsAreTheirOwn
roots_own hs root callsite can among = (known_of hs can).own root callsite among
