use Rattle.std.proofs.Common.{subst, sym}
use Rattle.span_script.proofs.Begins.{few_filters}
use Rattle.span_script.specs.Stacks.{BeginsWarned}
use Rattle.span_script.proofs.stacks.veto.Goals as goal

pub vetoed-requires-clause-filters : goal.vetoed-requires-clause-filters
vetoed-requires-clause-filters c = few_filters c.warned.result c.warned.ensures

pub returns : goal.returns
returns c =
    let h = c.vetoed.ensures in
    record { level = h.level; below = subst (BeginsWarned c.args.limits) (sym h.below) c.warned.ensures }
