-- What passes in the spans round a lane, by the references to them.
use Rattle.std.proofs.Common.{◌≡◌, ℕ, zero, suc, Bool, true, false, List, [], ◌∷◌, Option, Some, None, ap, map, option_copied, refl, subst, sym, ◌∙◌, ◌||◌}
use Rattle.std.specs.Borrow.{Bor}
use Rattle.std.specs.FinMap.{len}
use Rattle.std.specs.List.{filter, list_any}
use Rattle.span_core.specs.Filters.{FilterSet}
use Rattle.span_core.specs.Span.{number_of}
use Rattle.span_core.specs.declared.level.Level.{Level}
use Rattle.span_fields.specs.Filter.{Entry, passes_around, passes_in}
use Rattle.span_registry.specs.Context.{RefersTo, filters_in, store_at, view_in}
use Rattle.span_registry.specs.References.{Reference, id_of_reference, mask_of, reference_of, reference_to, scope_in, scope_of_reference, subscriber_of}
use Rattle.span_registry.specs.View.{SeenSpans, ancestry, current_shown, is_shown, scope, seen_spans}
use Rattle.span_registry.specs.declared.context.Context.{Context}
use Rattle.span_registry.specs.declared.scope.SpanRef.{SpanRef}
use Rattle.span_store.specs.Store.{RegistryState}

-- whether a level passes in one of the spans of these references
abbrev pub given_pass : {R : Type 0} → List Entry → Level → List (Reference R) → Bool
given_pass known l rs = list_any (λ r. passes_in known l r.id) rs

module _ {R : Type 0} (registry : R → RegistryState) (s : R) (mask : FilterSet) (known : List Entry) (l : Level) where
  given_is_seen : (xs : List ℕ) → given_pass known l (map (reference_to registry s mask) xs) ≡ list_any (passes_in known l) xs
  given_is_seen [] = refl
  given_is_seen (x ∷ xs) = λ i. passes_in known l x || given_is_seen xs i

-- no span is above none
none_above : (m : SeenSpans) → scope m None ≡ []
none_above m = ap (filter (is_shown m)) (none (len m))
  where
    none : (n : ℕ) → ancestry n m None ≡ []
    none zero = refl
    none (suc n) = refl

module _ {S : Type 0} (registry : S → RegistryState) (c : Context S) (known : List Entry) (l : Level) where
  store_of : (o : Option (Bor S)) (s : S) → option_copied o ≡ Some s → (registry s).store ≡ store_at registry o
  store_of None s e = absurd (cc)
  store_of (Some b) s e = let it : s ≡ b.now = cc in ap (λ t. (registry t).store) it

  -- by the scope of the span that the lane is in, what passes round the lane is given
  pub around_given : (found : Option (SpanRef S)) (r : SpanRef S) (given : List (Reference S)) → RefersTo registry c current_shown found → found ≡ Some r
      → given ≡ scope_of_reference registry r → given_pass known l given ≡ passes_around known l (view_in registry c)
  around_given found r given h is gives =
      let at : RefersTo registry c current_shown (Some r) = subst (RefersTo registry c current_shown) is h in
      let store = store_of c.subscriber (subscriber_of r) at.subscriber in
      let mask : mask_of r ≡ filters_in c = ap (λ x. x.mask) at.reference in
      ap (given_pass known l) gives
      ∙ given_is_seen registry (subscriber_of r) (mask_of r) known l
      (scope_in registry (subscriber_of r) (mask_of r) (Some (number_of (id_of_reference r))))
      ∙ (λ i. list_any (passes_in known l) (scope (seen_spans (store i) (mask i)) (at.span i)))

  -- on a lane in no span nothing passes more
  pub none_around : (found : Option (SpanRef S)) → RefersTo registry c current_shown found → found ≡ None
      → false ≡ passes_around known l (view_in registry c)
  none_around found h is =
      let at : RefersTo registry c current_shown None = subst (RefersTo registry c current_shown) is h in
      let m = (view_in registry c).spans in
      sym (ap (λ o. list_any (passes_in known l) (scope m o)) (sym at.span) ∙ ap (list_any (passes_in known l)) (none_above m))

  -- what passes at the first reference is given
  pub first_passes : (r : SpanRef S) (given more : List (Reference S)) → given ≡ reference_of r ∷ more
      → passes_in known l (number_of (id_of_reference r)) ≡ true → given_pass known l given ≡ true
  first_passes r given more is e = ap (given_pass known l) is ∙ ap (λ (b : Bool). b || given_pass known l more) e
