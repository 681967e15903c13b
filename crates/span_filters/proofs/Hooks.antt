-- Hooks of filters that are made of two parts.
use Rattle.std.proofs.Common.{subst}
use Rattle.span_core.specs.Filters.{has_filter}
use Rattle.span_core.specs.declared.filter.FilterId.{FilterId}
use Rattle.span_core.specs.declared.span.Lane.{Lane}
use Rattle.span_filters.specs.Combinator.{StepsBoth}
use Rattle.span_filters.specs.Filter.{FilterSteps, Notified}
use Rattle.span_store.specs.Store.{RegistryState}
use Rattle.span_registry.specs.Behaviour.{Notice}
use Rattle.span_registry.specs.Context.{WritesExtensions, filters_lent, lane_lent, subscriber_lent}
use Rattle.span_registry.specs.declared.context.ContextMut.{ContextMut}

-- where the first part is notified, and then the second in what the first left, both are
pub notified_both : {A B S : Type 0} (registry : S → RegistryState)
    (with_registry : S → RegistryState → S) (R : FilterSteps A) (Q : FilterSteps B) (e : Notice) (a : A) (b : B) (c d f : ContextMut S) (g : A) (h : B)
    → Notified R registry e a c g d → WritesExtensions registry with_registry c d → Notified Q registry e b d h f
    → StepsBoth R Q a b e (lane_lent c).0 (filters_lent c) (registry (subscriber_lent c)) g h (registry (subscriber_lent f))
notified_both registry with_registry R Q e a b c d f g h first written second = record {
  between = registry (subscriber_lent d);
  left = first;
  extensions = written.extensions;
  right =
      subst (λ (m : FilterId). Q b e (lane_lent c).0 (has_filter m) (registry (subscriber_lent d)) h (registry (subscriber_lent f))) written.loan.mask
      (subst (λ (l : Lane). Q b e l.0 (filters_lent d) (registry (subscriber_lent d)) h (registry (subscriber_lent f))) written.loan.lane second);
}
