-- The spans that a look from a lane finds are those that the lane is in.
use Rattle.std.proofs.Common.{◌≡◌, ◌∙◌, ℕ, zero, suc, [], map, Option, Some, None, refl, sym, ap}
use Rattle.std.specs.FinMap.{len}
use Rattle.std.specs.List.{filter}
use Rattle.span_core.specs.Span.{number_of}
use Rattle.span_core.specs.declared.span.Lane.{Lane}
use Rattle.span_error.specs.Trace.{spans_around}
use Rattle.span_registry.proofs.CallerLemmas.{view_looked_at}
use Rattle.span_registry.specs.Context.{LooksAt, RefersTo, view_in}
use Rattle.span_registry.specs.Hooks.{no_filter}
use Rattle.span_registry.specs.References.{Reference, id_of_reference, references_to, scope_of_reference, subscriber_of}
use Rattle.span_registry.specs.View.{SeenSpans, View, ancestry, current_shown, is_shown, scope}
use Rattle.span_registry.specs.declared.context.Context.{Context}
use Rattle.span_registry.specs.declared.scope.SpanRef.{SpanRef}
use Rattle.span_store.specs.Store.{RegistryState}

no_ancestry : (n : ℕ) (m : SeenSpans) → ancestry n m None ≡ []
no_ancestry zero m = refl
no_ancestry (suc n) m = refl

no_scope : (m : SeenSpans) → scope m None ≡ []
no_scope m = ap (filter (is_shown m)) (no_ancestry (len m) m)

module _ {S : Type 0} (registry : S → RegistryState) (c : Context S) (s : S) (lane : Lane) (looks : LooksAt c (Some s) lane.0 no_filter) where
  abbrev shown : Option ℕ
  shown = current_shown (view_in registry c)

  around : references_to registry s no_filter shown ≡ spans_around registry s lane
  around = ap (λ (v : View). references_to registry s no_filter (current_shown v)) (view_looked_at registry c s lane.0 no_filter looks)

  -- the scope of what is found
  pub around_found : (r : SpanRef S) → RefersTo registry c current_shown (Some r) → scope_of_reference registry r ≡ spans_around registry s lane
  around_found r h =
      let same : s ≡ subscriber_of r = (let both : Some s ≡ Some (subscriber_of r) = sym looks.subscriber ∙ h.subscriber in cc) in
      ap (λ (q : Reference S). references_to registry q.subscriber q.mask (Some (number_of (id_of_reference r)))) h.reference
      ∙ (λ i. references_to registry (sym same i) (looks.filters i) (h.span i)) ∙ around

  -- where nothing is found, there is none
  pub none_around : RefersTo registry c current_shown None → spans_around registry s lane ≡ []
  none_around h = sym around ∙ ap (references_to registry s no_filter) (sym h.span) ∙ ap (map _) (no_scope _)
