use Rattle.std.proofs.Common.{◌∙◌}
use Rattle.span_core.specs.Level.{passes_level}
use Rattle.span_targets.specs.Names.{level_for}
use Rattle.span_targets.specs.Targets.{names_of}
use Rattle.span_filters.proofs.targets.wants.Goals as goal

pub returns : goal.returns
returns c =
    c.would_enable.ensures
    ∙ (λ i. passes_level (level_for (names_of c.args.filter.now) (c.target.ensures i)) (c.level.ensures i))
