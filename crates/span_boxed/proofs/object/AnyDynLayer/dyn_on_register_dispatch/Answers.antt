use Rattle.span_boxed.proofs.BoxLemmas.{registers_lawfully}
use Rattle.span_boxed.proofs.object.AnyDynLayer.dyn_on_register_dispatch.Goals as goal

pub returns-clause-registered : goal.returns-clause-registered
returns-clause-registered g c = registers_lawfully g.met.L.Layer.laws g.met.L.Layer.paths _ _ c.on_register_dispatch.ensures.registered
