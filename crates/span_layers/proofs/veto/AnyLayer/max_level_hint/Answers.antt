use Rattle.span_layers.proofs.VetoHint.{veto_hint}
use Rattle.span_layers.proofs.veto.AnyLayer.max_level_hint.Goals as goal

pub returns : goal.returns
returns g c = veto_hint _ _ c.max_level_hint.ensures
