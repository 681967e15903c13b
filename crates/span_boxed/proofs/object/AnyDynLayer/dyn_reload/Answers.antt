use Rattle.span_boxed.proofs.BoxLemmas.{reloads_lawfully}
use Rattle.span_boxed.proofs.object.AnyDynLayer.dyn_reload.Goals as goal

pub returns-clause-reloaded : goal.returns-clause-reloaded
returns-clause-reloaded g c = reloads_lawfully g.met.L.Layer.laws g.met.L.Layer.paths g.met.L.Layer.reloads _ _ _ _ c.reload.ensures.reloaded
