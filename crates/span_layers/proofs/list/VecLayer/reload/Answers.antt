use Rattle.std.proofs.Common.{◌∙◌}
use Rattle.span_layers.proofs.SameVec.{same_items}
use Rattle.span_layers.proofs.list.VecLayer.reload.Goals as goal

pub returns-clause-unchanged : goal.returns-clause-unchanged
returns-clause-unchanged g c e = same_items c.args.self.now c.reload_each.new.members (c.reload_each.ensures.unchanged e ∙ c.as_mut_slice.ensures.value)
