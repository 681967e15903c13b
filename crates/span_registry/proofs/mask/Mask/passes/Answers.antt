use Rattle.std.proofs.Common.{◌∙◌}
use Rattle.span_registry.proofs.Masks.{both_pass}
use Rattle.span_registry.proofs.mask.Mask.passes.Goals as goal

pub returns : goal.returns
returns c = c.is_enabled.ensures ∙ both_pass c.args.self.filters c.args.filter c.and.result c.args.verdict c.and.ensures.attached c.and.ensures.members
