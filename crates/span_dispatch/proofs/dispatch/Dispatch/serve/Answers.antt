use Rattle.std.proofs.Common.{refl}
use Rattle.span_dispatch.proofs.Ready.{ready_by_rules, unchanged_ready}
use Rattle.span_dispatch.proofs.dispatch.Dispatch.serve.Goals as goal

pub returns-in_err-answers-clause-ready : goal.returns-in_err-answers-clause-ready
returns-in_err-answers-clause-ready g c = ready_by_rules c.args.self.now c.args.self.now (unchanged_ready c.args.self.now c.args.self.now refl)
