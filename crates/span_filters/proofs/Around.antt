-- What passes in the spans round a lane, by the references to them.
use Rattle.std.proofs.Common.{◌≡◌, ℕ, zero, suc, Bool, true, false, List, [], ◌∷◌, Option, Some, None, ap, map, option_copied, refl, subst, sym, ◌∙◌, ◌||◌}
use Rattle.std.specs.Borrow.{Bor}
use Rattle.std.specs.FinMap.{get, len}
use Rattle.std.specs.List.{filter, list_any}
use Rattle.std.specs.Option.{option_map, option_map_or}
use Rattle.span_core.specs.Filters.{FilterSet}
use Rattle.span_core.specs.Span.{number_of}
use Rattle.span_core.specs.declared.level.Level.{Level}
use Rattle.span_registry.proofs.Ancestry.{seen_at}
use Rattle.span_registry.specs.Context.{RefersTo, filters_in, store_at, view_in}
use Rattle.span_registry.specs.References.{Reference, id_of_reference, mask_of, reference_of, reference_to, scope_in, scope_of_reference, span_of_reference}
use Rattle.span_registry.specs.References.{subscriber_of}
use Rattle.span_registry.specs.View.{SeenSpans, ancestry, current_shown, is_shown, scope, see, seen_spans}
use Rattle.span_registry.specs.declared.context.Context.{Context}
use Rattle.span_registry.specs.declared.scope.SpanRef.{SpanRef}
use Rattle.span_store.specs.Store.{RegistryState, Span}
use Rattle.span_filters.specs.EnvFilter.{passes_around, passes_in}
use Rattle.span_targets.specs.EnvFilter.{passes_within}
use Rattle.span_targets.specs.declared.span_directive.SpanDirective.{SpanDirective}

-- whether a level passes in the span of a reference
abbrev pub passes_at : {R : Type 0} → List SpanDirective → Level → Reference R → Bool
passes_at ds l r = option_map_or (λ s. passes_within ds s.metadata l) r.span false

-- whether it does in one of them
abbrev pub given_pass : {R : Type 0} → List SpanDirective → Level → List (Reference R) → Bool
given_pass ds l rs = list_any (passes_at ds l) rs

module _ {R : Type 0} (registry : R → RegistryState) (s : R) (mask : FilterSet) (ds : List SpanDirective) (l : Level) where
  seen_passes : (o : Option Span) (x : ℕ)
      → option_map_or (λ r. passes_within ds r.metadata l) (option_map (λ r. see mask r (get (registry s).store.extensions x)) o) false
      ≡ option_map_or (λ r. passes_within ds r.metadata l) o false
  seen_passes None x = refl
  seen_passes (Some r) x = refl

  one_passes : (x : ℕ) → passes_at ds l (reference_to registry s mask x) ≡ passes_in ds l (seen_spans (registry s).store mask) x
  one_passes x =
      sym (ap (λ o. option_map_or (λ r. passes_within ds r.metadata l) o false) (seen_at (registry s).store mask x)
      ∙ seen_passes (get (registry s).store.spans x) x)

  -- by references to spans what passes is what passes by the spans as they are seen
  pub given_is_seen : (xs : List ℕ)
      → given_pass ds l (map (reference_to registry s mask) xs) ≡ list_any (passes_in ds l (seen_spans (registry s).store mask)) xs
  given_is_seen [] = refl
  given_is_seen (x ∷ xs) = λ i. one_passes x i || given_is_seen xs i

-- no span is above none
pub none_above : (m : SeenSpans) → scope m None ≡ []
none_above m = ap (filter (is_shown m)) (none (len m))
  where
    none : (n : ℕ) → ancestry n m None ≡ []
    none zero = refl
    none (suc n) = refl

module _ {S : Type 0} (registry : S → RegistryState) (c : Context S) (ds : List SpanDirective) (l : Level) where
  store_of : (o : Option (Bor S)) (s : S) → option_copied o ≡ Some s → (registry s).store ≡ store_at registry o
  store_of None s e = absurd (cc)
  store_of (Some b) s e = let it : s ≡ b.now = cc in ap (λ t. (registry t).store) it

  -- by the scope of the span that the lane is in, what passes round the lane is given
  pub around_given : (found : Option (SpanRef S)) (r : SpanRef S) (given : List (Reference S)) → RefersTo registry c current_shown found → found ≡ Some r
      → given ≡ scope_of_reference registry r → given_pass ds l given ≡ passes_around ds l (view_in registry c)
  around_given found r given h is gives =
      let at : RefersTo registry c current_shown (Some r) = subst (RefersTo registry c current_shown) is h in
      let store = store_of c.subscriber (subscriber_of r) at.subscriber in
      let mask : mask_of r ≡ filters_in c = ap (λ x. x.mask) at.reference in
      ap (given_pass ds l) gives
      ∙ given_is_seen registry (subscriber_of r) (mask_of r) ds l (scope_in registry (subscriber_of r) (mask_of r) (Some (number_of (id_of_reference r))))
      ∙ (λ i. list_any (passes_in ds l (seen_spans (store i) (mask i))) (scope (seen_spans (store i) (mask i)) (at.span i)))

  -- on a lane in no span nothing passes more
  pub none_around : (found : Option (SpanRef S)) → RefersTo registry c current_shown found → found ≡ None
      → false ≡ passes_around ds l (view_in registry c)
  none_around found h is =
      let at : RefersTo registry c current_shown None = subst (RefersTo registry c current_shown) is h in
      let m = (view_in registry c).spans in
      sym (ap (λ o. list_any (passes_in ds l m) (scope m o)) (sym at.span) ∙ ap (list_any (passes_in ds l m)) (none_above m))

  -- what passes at the first reference is given
  pub first_passes : (r : SpanRef S) (given more : List (Reference S)) → given ≡ reference_of r ∷ more
      → passes_within ds (span_of_reference r).metadata l ≡ true → given_pass ds l given ≡ true
  first_passes r given more is e = ap (given_pass ds l) is ∙ ap (λ (b : Bool). b || given_pass ds l more) e
