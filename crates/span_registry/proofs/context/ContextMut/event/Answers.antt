use Rattle.std.proofs.Common.{subst, refl}
use Rattle.span_core.specs.Filters.{FilterSet}
use Rattle.span_registry.specs.Behaviour.{OnEvent}
use Rattle.span_registry.specs.Hooks.{Notifies, Stays}
use Rattle.span_registry.proofs.context.ContextMut.event.Goals as goal

-- A new pass holds no filter.
pub returns-clause-sent : goal.returns-clause-sent
returns-clause-sent g c = record {
  loan = record { loan = refl; lane = refl; mask = refl; refused = refl };
  hooks = subst (λ (r : FilterSet). Notifies g.S.LookupSpan.registry
      g.S.Subscriber.has_form g.S.Subscriber.stepped c.args.self.now.lane r (OnEvent c.args.event.now) Stays c.args.self.now.subscriber.now c.event.new.self)
      (λ i n. c.new.ensures.refused n i) c.event.ensures.hooks;
}
