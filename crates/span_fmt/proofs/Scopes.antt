-- The beginning of a line, by the scope that a context gives and by what a view shows.
use Rattle.std.proofs.Common.{◌≡◌, ◌∙◌, ℕ, zero, suc, false, List, [], ◌∷◌, ◌++◌, map, drop, Option, Some, None, IfSome, refl, sym, ap, subst, is_some}
use Rattle.std.specs.Borrow.{Bor}
use Rattle.std.specs.FinMap.{len}
use Rattle.std.specs.List.{filter}
use Rattle.std.specs.Option.{option_copied}
use Rattle.std.specs.Prelude.{codes}
use Rattle.span_store.specs.Store.{RegistryState, Store}
use Rattle.span_registry.proofs.CallerLemmas.{view_lent_on}
use Rattle.span_registry.specs.Context.{GivesScope, LooksAtLent, filters_in, store_at, subscriber_in, subscriber_lent, view_in, view_lent}
use Rattle.span_registry.specs.References.{Reference, reference_to, references_to, to_give}
use Rattle.span_registry.specs.View.{SeenSpans, View, ancestry, is_shown, scope, seen_spans}
use Rattle.span_registry.specs.declared.context.Context.{Context}
use Rattle.span_registry.specs.declared.context.ContextMut.{ContextMut}
use Rattle.span_registry.specs.declared.scope.Scope.{Scope}
use Rattle.span_fmt.specs.Lane.{Naming, lane_text}
use Rattle.span_fmt.specs.Text.{head_text, indent}
use Rattle.span_fmt.specs.Tree.{given}

no_ancestry : (n : ℕ) (m : SeenSpans) → ancestry n m None ≡ []
no_ancestry zero m = refl
no_ancestry (suc n) m = refl

no_scope : (m : SeenSpans) (o : Option ℕ) → false ≡ is_some o → scope m o ≡ []
no_scope m None e = ap (filter (is_shown m)) (no_ancestry (len m) m)
no_scope m (Some x) e = absurd (cc)

store_looked_at : {S : Type 0} (registry : S → RegistryState) (o : Option (Bor S)) (s : S) → option_copied o ≡ Some s → store_at registry o ≡ (registry s).store
store_looked_at registry None s e = absurd (cc)
store_looked_at registry (Some b) s e = let k : b.now ≡ s = cc in ap (λ x. (registry x).store) k

-- what is to be given are references to the spans that are shown
looked : {S : Type 0} (registry : S → RegistryState) (look : Context S) (s : S) (which : View → Option ℕ) (found : Option (Scope S))
    → subscriber_in look ≡ Some s → GivesScope registry look which found
    → given registry found ≡ map (reference_to registry s (filters_in look)) (scope (view_in registry look).spans (which (view_in registry look)))
looked registry look s which None e h =
    sym (ap (map (reference_to registry s (filters_in look))) (no_scope (view_in registry look).spans (which (view_in registry look)) h.there))
looked {S} registry look s which (Some f) e h =
    let o = which (view_in registry look) in
    let given : to_give registry f ≡ references_to registry s (filters_in look) o =
    subst (λ (k : Option S). IfSome k (λ s. to_give registry f ≡ references_to registry s (filters_in look) o)) e h.scope in
    given ∙ ap (λ (st : Store). map (reference_to registry s (filters_in look)) (scope (seen_spans st (filters_in look)) o))
    (sym (store_looked_at registry look.subscriber s e))

-- the same of a look at what a hook is lent
pub lent : {S : Type 0} (registry : S → RegistryState) (c : ContextMut S) (look : Context S) (which : View → Option ℕ) (found : Option (Scope S))
    → LooksAtLent c look → GivesScope registry look which found
    → given registry found
    ≡ map (reference_to registry (subscriber_lent c) (filters_in look)) (scope (view_lent registry c).spans (which (view_lent registry c)))
lent registry c look which found l h =
    subst (λ (v : View). given registry found ≡ map (reference_to registry (subscriber_lent c) (filters_in look)) (scope v.spans (which v)))
    (view_lent_on registry c look l) (looked registry look (subscriber_lent c) which found l.subscriber h)

-- references stand for their spans
indent-map : {A B : Type 0} (f : A → B) (xs : List A) → indent (map f xs) ≡ indent xs
indent-map f [] = refl
indent-map f (x ∷ xs) = ap (λ (t : List ℕ). codes "  " ++ t) (indent-map f xs)

pub drop-map : {A B : Type 0} (f : A → B) (xs : List A) → drop 1 (map f xs) ≡ map f (drop 1 xs)
drop-map f [] = refl
drop-map f (x ∷ xs) = refl

head-map : {A B : Type 0} (names : Naming) (lane : ℕ) (f : A → B) (xs : List A) → head_text names lane (map f xs) ≡ head_text names lane xs
head-map names lane f xs = ap (λ (t : List ℕ). lane_text names lane ++ codes " " ++ t) (indent-map f xs)

-- a line that is indented by the scope found
pub head_round : {S : Type 0} (registry : S → RegistryState) (c : ContextMut S)
    (look : Context S) (which : View → Option ℕ) (found : Option (Scope S)) (names : Naming) (lane : ℕ)
    → LooksAtLent c look → GivesScope registry look which found
    → head_text names lane (given registry found) ≡ head_text names lane (scope (view_lent registry c).spans (which (view_lent registry c)))
head_round registry c look which found names lane l h =
    let f = reference_to registry (subscriber_lent c) (filters_in look) in
    ap (head_text names lane) (lent registry c look which found l h) ∙ head-map names lane f (scope (view_lent registry c).spans (which (view_lent registry c)))

-- a line that is indented by what is above the first of it
pub head_above : {S : Type 0} (registry : S → RegistryState) (c : ContextMut S)
    (look : Context S) (which : View → Option ℕ) (found : Option (Scope S)) (names : Naming) (lane : ℕ)
    → LooksAtLent c look → GivesScope registry look which found
    → head_text names lane (drop 1 (given registry found)) ≡ head_text names lane (drop 1 (scope (view_lent registry c).spans (which (view_lent registry c))))
head_above {S} registry c look which found names lane l h =
    let f = reference_to registry (subscriber_lent c) (filters_in look) in
    let spans = scope (view_lent registry c).spans (which (view_lent registry c)) in
    ap (λ (xs : List (Reference S)). head_text names lane (drop 1 xs)) (lent registry c look which found l h)
    ∙ ap (head_text names lane) (drop-map f spans) ∙ head-map names lane f (drop 1 spans)
