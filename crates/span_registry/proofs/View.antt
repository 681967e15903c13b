-- What is shown of the spans of a store, and of a lane.
use Rattle.std.proofs.Common.{◌≡◌, ℕ, Bool, true, false, cond, not, List, [], ◌∷◌, Option, None, Some, is_some, refl, sym, ap, ◌∙◌}
use Rattle.std.specs.FinMap.{get, get-empty}
use Rattle.std.specs.List.{find}
use Rattle.std.specs.Option.{option_and_then, option_map, option_map_or, unwrap_or}
use Rattle.std.specs.Ordering.{nat_cmp}
use Rattle.span_core.specs.Filters.{FilterSet, meets, refuses}
use Rattle.span_extensions.specs.declared.extensions.ExtensionMap.{ExtensionMap}
use Rattle.span_store.specs.LaneStack.{newest, without_duplicates}
use Rattle.span_store.specs.Store.{IsInStore, Span, Store, empty_store}
use Rattle.span_registry.specs.View.{SeenSpan, current_among, current_shown, extensions_shown, is_shown, seen_spans, see, view_of}
use Rattle.span_registry.proofs.Ancestry.{seen_at, seen_none, shown_some}

-- the span itself, where it is shown
abbrev pub one_shown : (s : Store) (mask : FilterSet) (x : ℕ) → Option ℕ
one_shown s mask x = cond (is_shown (seen_spans s mask) x) (Some x) None

-- a span that isn't in the store isn't shown
pub shown_none : (s : Store) (mask : FilterSet) (x : ℕ) → get s.spans x ≡ None → one_shown s mask x ≡ None
shown_none s mask x e = ap (λ (o : Option SeenSpan). cond (option_map_or (λ r. not r.hidden) o false) (Some x) None) (seen_none s mask x e)

turned : {X : Type 0} (b : Bool) (o : X) → cond (not b) (Some o) None ≡ cond b None (Some o)
turned true o = refl
turned false o = refl

-- one that is in the store is shown exactly where it isn't hidden
pub shown_by : (s : Store) (mask : FilterSet) (x : ℕ) (r : Span) (b : Bool)
    → get s.spans x ≡ Some r → meets mask (refuses r.verdict) ≡ b → one_shown s mask x ≡ cond b None (Some x)
shown_by s mask x r b e h = ap (λ (c : Bool). cond c (Some x) None) (shown_some s mask x r e ∙ ap not h) ∙ turned b x

-- where there is no store, no span is shown
pub shown_nowhere : (mask : FilterSet) (x : ℕ) → one_shown empty_store mask x ≡ None
shown_nowhere mask x = shown_none empty_store mask x (get-empty nat_cmp x)

pub gone_nowhere : (x : ℕ) → is_some (get empty_store.spans x) ≡ false
gone_nowhere x = ap (λ (o : Option Span). is_some o) (get-empty nat_cmp x)

-- a span is in the view exactly if it is in the store
there_in : (o : Option Span) (mask : FilterSet) (s : Store) (x : ℕ) → is_some (option_map (λ r. see mask r (get s.extensions x)) o) ≡ is_some o
there_in None mask s x = refl
there_in (Some r) mask s x = refl

pub there_at : (s : Store) (mask : FilterSet) (x : ℕ) → is_some (get (seen_spans s mask) x) ≡ is_some (get s.spans x)
there_at s mask x = ap (λ (o : Option SeenSpan). is_some o) (seen_at s mask x) ∙ there_in (get s.spans x) mask s x

-- ---- the extensions of a span

shown_or_not : {X : Type 0} (b : Bool) (e : Option X) → cond b None e ≡ cond (not b) e None
shown_or_not true e = refl
shown_or_not false e = refl

extended : (o : Option Span) (mask : FilterSet) (e : Option ExtensionMap) (b : Bool)
    → option_map_or (λ r. not r.hidden) (option_map (λ r. see mask r e) o) false ≡ b
    → option_and_then (λ r. r.extensions) (option_map (λ r. see mask r e) o) ≡ cond b e None
extended None mask e b h = ap (λ (c : Bool). cond c e None) h
extended (Some r) mask e b h = shown_or_not (meets mask (refuses r.verdict)) e ∙ ap (λ (c : Bool). cond c e None) h

-- those of a span that is shown are what the store has, and of no other are there any
pub extensions_by : (s : Store) (lane : ℕ) (mask : FilterSet) (x : ℕ) (b : Bool)
    → is_shown (seen_spans s mask) x ≡ b → extensions_shown x (view_of s lane mask) ≡ cond b (get s.extensions x) None
extensions_by s lane mask x b h =
    ap (λ (o : Option SeenSpan). option_and_then (λ r. r.extensions) o) (seen_at s mask x)
    ∙ extended (get s.spans x)
    mask (get s.extensions x) b (sym (ap (λ (o : Option SeenSpan). option_map_or (λ r. not r.hidden) o false) (seen_at s mask x)) ∙ h)

-- one that is shown is in the store
shown_of : (o : Option SeenSpan) → option_map_or (λ r. not r.hidden) o false ≡ true → is_some o ≡ true
shown_of None h = h
shown_of (Some r) h = refl

found : (o : Option Span) → is_some o ≡ true → (r : Span) × (o ≡ Some r)
found None h = let no : false ≡ true = h in absurd (cc)
found (Some r) h = (r, refl)

pub shown_there : (s : Store) (mask : FilterSet) (x : ℕ) → is_shown (seen_spans s mask) x ≡ true → IsInStore s.spans x
shown_there s mask x h = found (get s.spans x) (sym (there_at s mask x) ∙ shown_of (get (seen_spans s mask) x) h)

-- ---- the span that a lane is in

pub current_none : (s : Store) (mask : FilterSet) (xs : List ℕ) → newest xs ≡ None → current_among (seen_spans s mask) xs ≡ None
current_none s mask [] e = refl
current_none s mask (x ∷ xs) e = let no : Some x ≡ None = e in absurd (cc)

-- what is shown of the entries of a stack, by whether the newest is in the store
pub current_by : (s : Store) (mask : FilterSet) (xs : List ℕ) (x : ℕ) (there : Bool)
    → newest xs ≡ Some x → is_some (get s.spans x) ≡ there → current_among (seen_spans s mask) xs ≡ cond there (find (is_shown (seen_spans s mask)) xs) None
current_by s mask [] x there e h = let no : None ≡ Some x = e in absurd (cc)
current_by s mask (y ∷ ys) x there e h =
    let same : y ≡ x = cc in
    ap (λ (b : Bool). cond b (find (is_shown (seen_spans s mask)) (y ∷ ys)) None) (there_at s mask y ∙ ap (λ (z : ℕ). is_some (get s.spans z)) same ∙ h)

-- where there is no store, a lane is in no span
pub current_nowhere : (mask : FilterSet) (lane : ℕ) → current_shown (view_of empty_store lane mask) ≡ None
current_nowhere mask lane =
    ap (λ (o : Option (List ℕ)). current_among (seen_spans empty_store mask) (without_duplicates (unwrap_or o []))) (get-empty nat_cmp lane)
