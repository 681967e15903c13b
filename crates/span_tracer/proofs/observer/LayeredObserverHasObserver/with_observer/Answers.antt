use Rattle.std.proofs.Common.{◌∙◌, ap, refl}
use Rattle.span_layers.specs.Observe.{observer_of}
use Rattle.span_tracer.proofs.observer.LayeredObserverHasObserver.with_observer.Goals as goal

pub returns-clause-changed : goal.returns-clause-changed
returns-clause-changed g c = record {
  shown = _;
  shows = c.observer_mut.ensures.value ∙ ap observer_of c.outer_mut.ensures.value;
  left = _;
  met = c.body.ensures;
  leaves = refl;
}
