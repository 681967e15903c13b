use Rattle.span_examples.proofs.Parents.{restored}
use Rattle.span_examples.proofs.law.enter_and_leave.Goals as goal

pub returns-clause-restored : goal.returns-clause-restored
returns-clause-restored c = restored c.args.lane c.args.id _ _ _ c.leaving_undoes_entering.ensures c.in_ok-enter.ensures.entered c.exit.ensures
