use Rattle.span_boxed.proofs.BoxLemmas.{steps_lawfully}
use Rattle.span_boxed.proofs.object.AnyDynLayer.dyn_notify.Goals as goal

pub returns-clause-hook : goal.returns-clause-hook
returns-clause-hook g c f h = steps_lawfully g.met.L.Layer.laws g.met.L.Layer.paths _ _ _ _ _ _ _ _ (c.notify.ensures.hook f h)
