-- What the interest of a stack says: never, or always.
use Rattle.std.proofs.Common.{◌≡◌, ◌⊎◌, inl, inr, ℕ, zero, suc, ◌<◌, Bool, true, false, not, ◌&&◌, ◌||◌, Option, Some, None, refl, sym, ap, subst, ◌∙◌, ⊎_elim}
use Rattle.std.proofs.Common.{arith}
use Rattle.std.specs.Prelude.{⊤, if◌then◌else◌}
use Rattle.std.proofs.lemmas.Bool.{or_cases, or_left, or_right, or_parts, and_parts, and_cases, both_ways, eq-eqb, false≢true, true≢false}
use Rattle.span_core.specs.Filters.{FilterSet, union}
use Rattle.span_core.specs.Interest.{sum_with}
use Rattle.span_core.specs.declared.interest.Interest.TheVariants.{Always, Never, Sometimes}
use Rattle.span_core.specs.declared.interest.Interest.{Interest}
use Rattle.span_core.specs.declared.metadata.Metadata.{Metadata}
use Rattle.span_stacks.proofs.Asked.{AllPass, AreRefused, FiltersRefuse, wanted_by_all, wanted_by_nobody}
use Rattle.span_stacks.proofs.Built.{both_full, is_full, is_missing, is_stack, rules_of}
use Rattle.span_stacks.proofs.Pass.{pick, quiet_veto}
use Rattle.span_stacks.specs.Honest.{HasHonestAnswers}
use Rattle.span_stacks.specs.Verdict.{IsOrderly, LeavesRefuseNothing, numbers_of, vetoes}
use Rattle.span_stacks.specs.Wanted.{AlwaysIsWanted, NeverIsUnwanted}
use Rattle.span_store.specs.Store.{Store}
use Rattle.span_registry.specs.Form.{Absent, Terminal, Base, Filtered, Form, InList, InPair, Arrangement, Leaf, OnSubscriber, Parts, is_base, is_end}
use Rattle.span_registry.specs.Form.{both_marked, is_marked}
use Rattle.span_registry.specs.Hooks.{no_filter}
use Rattle.span_registry.specs.Question.{higher, interest_of, is_calm, is_never, joint_interest, over_interest, single}
use Rattle.span_registry.specs.Subscriber.{registry_interest}
use Rattle.span_registry.specs.View.{view_of}

abbrev pub Sum : Type 0
Sum = Option Interest

-- no other interest is in the sum
abbrev pub Only : Interest → Sum → Type 0
Only x None = ⊤
Only x (Some y) = y ≡ x

-- ---- the rules, over plain values

-- a sum is never, or always, only where both its parts are
sum_parts : (x : Interest) (u : Sum) (i : Interest) → (Sometimes ≡ x → ⊥) → sum_with u i ≡ x → Only x u × (i ≡ x)
sum_parts x None i d e = (tt, e)
sum_parts x (Some Never) Never d e = (e, e)
sum_parts x (Some Always) Always d e = (e, e)
sum_parts x other i d e = absurd (d e)

-- the higher interest is never only where both are
higher_never : (a b : Interest) → higher a b ≡ Never → a ≡ Never
higher_never Never b e = refl
higher_never Sometimes Always e = absurd (cc)
higher_never other b e = absurd (cc)

pub only_never : (i : Interest) → is_never i ≡ true → i ≡ Never
only_never Never e = refl
only_never other e = absurd (false≢true e)

-- two parts leave the inner one's sum, or none, where the outer one alone says never
data SumBy (k : Bool) (o : Interest) (inner joint : Sum) : Type 0 where
  Kept : joint ≡ inner → SumBy k o inner joint
  Dropped : joint ≡ None → k ≡ false → o ≡ Never → SumBy k o inner joint

joint_sum : (j : Arrangement) (k : Bool) (o : Interest) (t : Bool) (r : Interest × Sum) → SumBy k o r.1 (joint_interest j k o t r).1
joint_sum InList k o t r = Kept refl
joint_sum j false Never t r = Dropped refl refl refl
joint_sum j false Always t r = Kept (pick (λ (z : Interest × Sum). z.1 ≡ r.1) (is_never r.0 && t) _ _ refl refl)
joint_sum other k o t r = Kept refl

data NeverBy (k : Bool) (o : Interest) (t : Bool) (i : Interest) : Type 0 where
  ByInner : k ≡ true → i ≡ Never → NeverBy k o t i
  ByOuter : k ≡ false → o ≡ Never → NeverBy k o t i
  ByBare : k ≡ false → i ≡ Never → t ≡ false → NeverBy k o t i

rules_never : (k : Bool) (o : Interest) (t : Bool) (i : Interest) (u : Sum) → (over_interest k o t (i, u)).0 ≡ Never → NeverBy k o t i
rules_never true o t i u e = ByInner refl e
rules_never false Never t i u e = ByOuter refl refl
rules_never false Always false Never u e = ByBare refl refl refl
rules_never false Always true Never u e = absurd (cc)
rules_never other o t i u e = absurd (cc)

rules_always : (k : Bool) (o : Interest) (t : Bool) (i : Interest) (u : Sum)
    → (over_interest k o t (i, u)).0 ≡ Always → ((k ≡ true) ⊎ (o ≡ Always)) × (i ≡ Always)
rules_always true o t i u e = (inl refl, e)
rules_always false Always t Always u e = (inr refl, refl)
rules_always false Always true Never u e = absurd (cc)
rules_always other o t i u e = absurd (cc)

-- where the registry handed out no filter, the sum is as it was
registry_only : (x : Interest) (n : ℕ) (u : Sum) → (n ≡ 0 → Only x u) → registry_interest n u ≡ x → Only x u
registry_only x zero u z e = z refl
registry_only x (suc n) None z e = tt
registry_only x (suc n) (Some y) z e = e

-- where the outer part vetoes, both do; else what is known of it leads on
pub by_outer : {P R : Type 0} (a b : Bool) → (a ≡ true) ⊎ P → (P → (a || b ≡ true) ⊎ R) → (a || b ≡ true) ⊎ R
by_outer {P} a b said rest = ⊎_elim (λ (x : a ≡ true). inl (or_left _ _ x)) rest said

-- where the inner part vetoes, both do; else what is known of it leads on
pub by_inner : {P R : Type 0} (a b : Bool) → (b ≡ true) ⊎ P → (P → (a || b ≡ true) ⊎ R) → (a || b ≡ true) ⊎ R
by_inner {P} a b said rest = ⊎_elim (λ (x : b ≡ true). inl (or_right _ _ x)) rest said

-- ---- how parts of a stack stand

-- a layer: absent or full, or the end of a list
abbrev pub is_layer : Form → Bool
is_layer f = is_missing f || (is_end f || is_full f)

full_layer : (f : Form) → is_full f ≡ true → is_layer f ≡ true
full_layer f w = or_right (is_missing f) _ (or_right (is_end f) _ w)

outer_layer : (f : Form) → is_missing f || is_full f ≡ true → is_layer f ≡ true
outer_layer f w = ⊎_elim (λ (x : is_missing f ≡ true). or_left _ _ x) (λ (x : is_full f ≡ true). full_layer f x) (or_cases _ _ w)

-- of a layer made of parts, the outer one is full, and the inner one is so or the end of a list
pub parts_full : (j : Arrangement) (a b c : Bool) → both_full j a b c ≡ true → (a ≡ true) × (b || c ≡ true)
parts_full OnSubscriber a b c w = absurd (false≢true w)
parts_full InPair a b c w = let both = and_parts _ _ w in (both.0, or_right _ _ both.1)
parts_full InList a b c w = and_parts _ _ w

parts_marked : (j : Arrangement) (a b c p q : Bool) → both_full j a b c ≡ true → both_marked j p b q ≡ true → (p ≡ true) × (b || q ≡ true)
parts_marked OnSubscriber a b c p q w k = absurd (false≢true w)
parts_marked InPair a b c p q w k = let both = and_parts _ _ k in (both.0, or_right _ _ both.1)
parts_marked InList a b c p q w k = and_parts _ _ k

parts_unmarked : (j : Arrangement) (a b c p q : Bool) → both_full j a b c ≡ true → both_marked j p b q ≡ false
    → ((a ≡ true) × (p ≡ false)) ⊎ ((c ≡ true) × (q ≡ false))
parts_unmarked OnSubscriber a b c p q w k = absurd (false≢true w)
parts_unmarked InPair a b c p q w k =
    let both = and_parts _ _ w in ⊎_elim (λ (x : p ≡ false). inl (both.0, x)) (λ (x : q ≡ false). inr (both.1, x)) (and_cases _ _ k)
parts_unmarked InList a b c p q w k =
    let both = and_parts a (b || c) w in
    ⊎_elim (λ (x : p ≡ false). inl (both.0, x)) (λ (x : b || q ≡ false). let no = or_parts b q x in inr (rw no.0 at both.1, no.1)) (and_cases _ _ k)

-- two parts' interest is never where that of one is, which is full
parts_never : (j : Arrangement) (a b c k : Bool) (o : Interest) (t : Bool) (i : Interest) (u : Sum)
    → both_full j a b c ≡ true → (joint_interest j k o t (i, u)).0 ≡ Never → ((a ≡ true) × (o ≡ Never)) ⊎ ((c ≡ true) × (i ≡ Never))
parts_never OnSubscriber a b c k o t i u w e = absurd (false≢true w)
parts_never InPair a b c k o t i u w e =
    let both = and_parts _ _ w in
    elim (rules_never _ _ _ _ _ e) [ ByInner x y ↦ inr (both.1, y) | ByOuter x y ↦ inl (both.0, y) | ByBare x y z ↦ inr (both.1, y) ]
parts_never InList a b c k o t i u w e = inl ((and_parts _ _ w).0, higher_never _ _ e)

-- what stands directly on the stack is absent, or full
pub data Stands (f : Form) : Type 0 where
  IsMissing : f ≡ Terminal Absent → Stands f
  IsThere : is_full f ≡ true → Stands f

pub stands : (f : Form) → is_missing f || is_full f ≡ true → Stands f
stands (Terminal Absent) w = IsMissing refl
stands other w = IsThere w

-- a stack that isn't a layer on one is the registry
pub base_refused : (f : Form) (m : Metadata) (s : Store) (l : ℕ) (b : FilterSet) → is_base f ≡ true → AreRefused f m s l b
base_refused (Terminal v) m s l b e = tt
base_refused other m s l b e = absurd (false≢true e)

-- ---- never

-- a layer whose interest is never has a leaf that vetoes
never_vetoes : (f : Form) (m : Metadata) (n : ℕ) (u : Sum) (s : Store) (l : ℕ)
    → is_full f ≡ true → HasHonestAnswers f → (interest_of f m n u).0 ≡ Never → vetoes f m s l ≡ true
never_vetoes (Leaf still a) m n u s l w h e = ap not (h.never m (view_of s l no_filter) e)
never_vetoes (Filtered None a f) m n u s l w h e = absurd (cc)
never_vetoes (Parts j o i) m n u s l w h e = ⊎_elim
    (λ (x : (is_full o ≡ true) × ((interest_of o m n u).0 ≡ Never)). or_left _ _ (never_vetoes o m n u s l x.0 h.0 x.1))
    (λ (x : (is_full i ≡ true) × ((interest_of i m n (interest_of o m n u).1).0 ≡ Never)). or_right _ _ (never_vetoes i m n _ s l x.0 h.1 x.1))
    (parts_never j _ _ _ _ _ _ _ _ w e)
never_vetoes (Terminal v) m n u s l w h e = absurd (false≢true w)
never_vetoes other m n u s l w h e = absurd (cc)

-- a low sum says of a part: a leaf vetoes, or its filters refuse, and the sum was low before
low : (f : Form) (m : Metadata) (n : ℕ) (u : Sum) (s : Store) (l : ℕ) (b : FilterSet)
    → is_layer f ≡ true → HasHonestAnswers f → Only Never (interest_of f m n u).1 → (vetoes f m s l ≡ true) ⊎ (Only Never u × FiltersRefuse f m s l b)
low (Terminal Base) m n u s l b w h e = absurd (false≢true w)
low (Filtered (Some k) a f) m n u s l b w h e =
    let parts = sum_parts Never _ (a.interest m) (λ x. cc) e in
    let before : Only Never u = subst (λ z. Only Never (if is_never z then u else (interest_of f m n u).1)) parts.1 parts.0 in
    inr (before, h.0.never m (view_of s l (union b (single k))) parts.1)
low (Parts j o i) m n u s l b w h e =
    let both = parts_full j _ _ _ w in
    elim (joint_sum j (is_marked o) (interest_of o m n u).0 (is_calm j i) (interest_of i m n (interest_of o m n u).1)) [
      | Kept same ↦ by_inner _ _ (low i m n (interest_of o m n u).1 s l b (or_right _ _ both.1) h.1 (subst (Only Never) same e))
          (λ x. by_outer _ _ (low o m n u s l b (full_layer o both.0) h.0 x.0) (λ y. inr (y.0, (y.1, x.1))))
      | Dropped x y z ↦ inl (or_left _ _ (never_vetoes o m n u s l both.0 h.0 z))
    ]
low other m n u s l b w h e = inr (e, tt)

-- a marked layer has no leaf without a filter
marked_refused : (f : Form) (m : Metadata) (s : Store) (l : ℕ) (b : FilterSet)
    → is_layer f ≡ true → is_end f || is_marked f ≡ true → FiltersRefuse f m s l b → AreRefused f m s l b
marked_refused (Leaf still a) m s l b w k h = absurd (false≢true k)
marked_refused (Parts j o i) m s l b w k h =
    let both = parts_full j _ _ _ w in
    let marks = parts_marked j _ _ _ _ _ w k in
    (marked_refused o m s l b (full_layer o both.0) (or_right _ _ marks.0) h.0, marked_refused i m s l b (or_right _ _ both.1) marks.1 h.1)
marked_refused (Filtered None a f) m s l b w k h = tt
marked_refused other m s l b w k h = h

-- an unmarked layer that is there has a leaf without a filter
unmarked_leaf : (f : Form) (m : Metadata) (s : Store) (l : ℕ) (b : FilterSet) → is_full f ≡ true → is_marked f ≡ false → AreRefused f m s l b → ⊥
unmarked_leaf (Leaf still a) m s l b w k h = h
unmarked_leaf (Filtered n a f) m s l b w k h = true≢false k
unmarked_leaf (Parts j o i) m s l b w k h = ⊎_elim
    (λ (x : (is_full o ≡ true) × (is_marked o ≡ false)). unmarked_leaf o m s l b x.0 x.1 h.0)
    (λ (x : (is_full i ≡ true) × (is_marked i ≡ false)). unmarked_leaf i m s l b x.0 x.1 h.1)
    (parts_unmarked j _ _ _ _ _ w k)
unmarked_leaf other m s l b w k h = false≢true w

-- a stack of absent layers is never of no interest
hollow_stack : (f : Form) (m : Metadata) (n : ℕ) (u : Sum) (s : Store) (l : ℕ) (b : FilterSet)
    → is_stack f ≡ true → is_marked f || is_base f ≡ false → AreRefused f m s l b → (interest_of f m n u).0 ≡ Never → ⊥
hollow_stack (Terminal v) m n u s l b w k h e = both_ways _ k w
hollow_stack (Parts OnSubscriber o i) m n u s l b w k h e =
    let both = and_parts _ _ w in
    let marks : (is_marked o ≡ false) × (is_marked i ≡ false) = or_parts _ _ (or_parts _ _ k).0 in
    elim (stands o both.0) [
      | IsThere x ↦ unmarked_leaf o m s l b x marks.0 h.0
      | IsMissing x ↦ (let e' : (over_interest false Always (is_marked i || is_base i) (interest_of i m n u)).0 ≡ Never =
          subst (λ z. (interest_of (Parts OnSubscriber z i) m n u).0 ≡ Never) x e in
          elim (rules_never _ _ _ _ _ e') [
            | ByInner y z ↦ false≢true y
            | ByOuter y z ↦ (let wrong : Always ≡ Never = z in absurd (cc))
            | ByBare y z v ↦ hollow_stack i m n u s l b both.1 v h.1 z
          ])
    ]
hollow_stack other m n u s l b w k h e = false≢true w

-- never: a leaf vetoes, or all are refused
never_means : (f : Form) (m : Metadata) (n : ℕ) (u : Sum) (s : Store) (l : ℕ) (b : FilterSet)
    → is_stack f ≡ true → HasHonestAnswers f → (interest_of f m n u).0 ≡ Never → (vetoes f m s l ≡ true) ⊎ (Only Never u × AreRefused f m s l b)
never_means (Terminal Base) m n u s l b w h e =
    inr (registry_only Never n u (λ z. let wrong : Always ≡ Never = sym (ap (λ k. registry_interest k u) z) ∙ e in absurd (cc)) e, tt)
never_means (Parts OnSubscriber o i) m n u s l b w h e =
    let both = and_parts _ _ w in
    let outer = outer_layer o both.0 in
    let below = never_means i m n (interest_of o m n u).1 s l b both.1 h.1 in
    elim (rules_never _ _ _ _ _ e) [
      | ByInner x y ↦ by_inner _ _ (below y) (λ q. by_outer _ _ (low o m n u s l b outer h.0 q.0)
          (λ z. inr (z.0, (marked_refused o m s l b outer (or_right _ _ x) z.1, q.1))))
      | ByOuter x y ↦ elim (stands o both.0) [
        | IsThere z ↦ inl (or_left _ _ (never_vetoes o m n u s l z h.0 y))
        | IsMissing z ↦ (let wrong : Always ≡ Never = subst (λ v. (interest_of v m n u).0 ≡ Never) z y in absurd (cc))
      ]
      | ByBare x y z ↦ by_inner _ _ (below y) (λ q. absurd (hollow_stack i m n (interest_of o m n u).1 s l b both.1 z q.1 y))
    ]
never_means other m n u s l b w h e = absurd (false≢true w)

-- ---- always

quiet_orderly : (f : Form) → LeavesRefuseNothing f → IsOrderly f
quiet_orderly (Filtered n a f) q = q
quiet_orderly (Parts InList o i) q = q
quiet_orderly (Parts j o i) q = (quiet_orderly o q.0, quiet_orderly i q.1)
quiet_orderly other q = tt

parts_orderly : (j : Arrangement) (o i : Form) → IsOrderly (Parts j o i) → IsOrderly o × IsOrderly i
parts_orderly InList o i c = (quiet_orderly o c.0, quiet_orderly i c.1)
parts_orderly other o i c = c

-- why a high sum speaks for a whole layer
data Speaks (f : Form) (m : Metadata) (n : ℕ) (u : Sum) : Type 0 where
  Quietly : LeavesRefuseNothing f → Speaks f m n u
  Marked : is_marked f ≡ true → Speaks f m n u
  Always' : (interest_of f m n u).0 ≡ Always → Speaks f m n u

speaks : (f : Form) (m : Metadata) (n : ℕ) (u : Sum) → (is_marked f ≡ true) ⊎ ((interest_of f m n u).0 ≡ Always) → Speaks f m n u
speaks f m n u (inl x) = Marked x
speaks f m n u (inr x) = Always' x

parts_speak : (j : Arrangement) (o i : Form) (m : Metadata) (n : ℕ) (u : Sum) → is_layer (Parts j o i) ≡ true → IsOrderly (Parts j o i)
    → Speaks (Parts j o i) m n u → Speaks o m n u × Speaks i m n (interest_of o m n u).1
parts_speak OnSubscriber o i m n u w c v = absurd (false≢true w)
parts_speak InList o i m n u w c v = (Quietly c.0, Quietly c.1)
parts_speak InPair o i m n u w c (Quietly q) = (Quietly q.0, Quietly q.1)
parts_speak InPair o i m n u w c (Marked k) = let marks = and_parts _ _ k in (Marked marks.0, Marked marks.1)
parts_speak InPair o i m n u w c (Always' y) = let why = rules_always _ _ _ _ _ y in (speaks o m n u why.0, Always' why.1)

-- a layer for which a high sum speaks is of some interest, unless it is marked
never_speaks : (f : Form) (m : Metadata) (n : ℕ) (u : Sum) (s : Store) (l : ℕ)
    → is_full f ≡ true → HasHonestAnswers f → is_marked f ≡ false → (interest_of f m n u).0 ≡ Never → Speaks f m n u → ⊥
never_speaks f m n u s l w h k e (Quietly q) = both_ways _ (quiet_veto f m s l q) (never_vetoes f m n u s l w h e)
never_speaks f m n u s l w h k e (Marked x) = both_ways _ k x
never_speaks f m n u s l w h k e (Always' x) = let wrong : Always ≡ Never = sym x ∙ e in absurd (cc)

high : (f : Form) (m : Metadata) (n : ℕ) (u : Sum) (s : Store) (l : ℕ) (b : FilterSet) → is_layer f ≡ true → HasHonestAnswers f → IsOrderly f
    → Only Always (interest_of f m n u).1 → Speaks f m n u → Only Always u × AllPass f m s l b
high (Leaf still a) m n u s l b w h c e v =
    (e, elim v [ Quietly q ↦ q.enabled m (view_of s l b) | Marked k ↦ absurd (false≢true k) | Always' y ↦ h.always m (view_of s l b) y ])
high (Terminal Base) m n u s l b w h c e v = absurd (false≢true w)
high (Filtered (Some k) a f) m n u s l b w h c e v =
    let parts = sum_parts Always _ (a.interest m) (λ x. cc) e in
    let inner : Only Always (interest_of f m n u).1 = subst (λ z. Only Always (if is_never z then u else (interest_of f m n u).1)) parts.1 parts.0 in
    let rest = high f m n u s l (union b (single k)) (full_layer f w) h.1 (quiet_orderly f c) inner (Quietly c) in
    (rest.0, (h.0.always m (view_of s l (union b (single k))) parts.1, rest.1))
high (Parts j o i) m n u s l b w h c e v =
    let both = parts_full j _ _ _ w in
    let orderly = parts_orderly j o i c in
    let speak = parts_speak j o i m n u w c v in
    let inner : Only Always (interest_of i m n (interest_of o m n u).1).1 =
    elim (joint_sum j (is_marked o) (interest_of o m n u).0 (is_calm j i) (interest_of i m n (interest_of o m n u).1)) [
      | Kept same ↦ subst (Only Always) same e
      | Dropped x y z ↦ absurd (never_speaks o m n u s l both.0 h.0 y z speak.0)
    ] in
    let second = high i m n (interest_of o m n u).1 s l b (or_right _ _ both.1) h.1 orderly.1 inner speak.1 in
    let first = high o m n u s l b (full_layer o both.0) h.0 orderly.0 second.0 speak.0 in
    (first.0, (first.1, second.1))
high other m n u s l b w h c e v = (e, tt)

-- where no filter of it has a number, nothing but what was in the sum is in it
none_added : (f : Form) (m : Metadata) (n : ℕ) (u : Sum)
    → is_layer f ≡ true → ((k : ℕ) → numbers_of f k ≡ true → ⊥) → Only Always u → Only Always (interest_of f m n u).1
none_added (Terminal Base) m n u w d e = absurd (false≢true w)
none_added (Filtered (Some k) a f) m n u w d e = absurd (d k (or_left _ _ (eq-eqb k k refl)))
none_added (Parts j o i) m n u w d e =
    let both = parts_full j _ _ _ w in
    let first = none_added o m n u (full_layer o both.0) (λ k x. d k (or_left _ _ x)) e in
    let second = none_added i m n (interest_of o m n u).1 (or_right _ _ both.1) (λ k x. d k (or_right _ _ x)) first in
    elim (joint_sum j (is_marked o) (interest_of o m n u).0 (is_calm j i) (interest_of i m n (interest_of o m n u).1)) [
      | Kept same ↦ subst (Only Always) (sym same) second
      | Dropped x y z ↦ subst (Only Always) (sym x) tt
    ]
none_added other m n u w d e = e

-- always: every filter and leaf passes
always_means : (f : Form) (m : Metadata) (n : ℕ) (u : Sum) (s : Store) (l : ℕ) (b : FilterSet)
    → is_stack f ≡ true → HasHonestAnswers f → IsOrderly f → ((k : ℕ) → numbers_of f k ≡ true → k < n) → (n ≡ 0 → Only Always u)
    → (interest_of f m n u).0 ≡ Always → Only Always u × AllPass f m s l b
always_means (Terminal Base) m n u s l b w h c d z e = (registry_only Always n u z e, tt)
always_means (Parts OnSubscriber o i) m n u s l b w h c d z e =
    let both = and_parts _ _ w in
    let why = rules_always _ _ _ _ _ e in
    let layer = outer_layer o both.0 in
    let clean : n ≡ 0 → Only Always (interest_of o m n u).1 = λ x. none_added o m n u layer (λ k y. let a = d k (or_left _ _ y) in omega (arith, a, x)) (z x) in
    let second = always_means i m n (interest_of o m n u).1 s l b both.1 h.1 c.1 (λ k y. d k (or_right _ _ y)) clean why.1 in
    let first = high o m n u s l b layer h.0 c.0 second.0 (speaks o m n u why.0) in
    (first.0, (first.1, second.1))
always_means other m n u s l b w h c d z e = absurd (false≢true w)

-- ---- the laws

pub never_is_unwanted : NeverIsUnwanted
never_is_unwanted f n m s l honest e =
    let h = rules_of f n honest in
    by_inner false _ (never_means f m n None s l no_filter h.stack h.answers e) (λ x. inr (wanted_by_nobody f m s l x.1))

pub always_is_wanted : AlwaysIsWanted
always_is_wanted f n m s l honest e =
    let h = rules_of f n honest in
    wanted_by_all f m s l (always_means f m n None s l no_filter h.stack h.answers h.orderly (λ k x. h.numbers.handed_out k x) (λ x. tt) e).1
