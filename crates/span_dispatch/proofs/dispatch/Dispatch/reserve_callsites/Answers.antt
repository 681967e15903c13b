use Rattle.std.proofs.Common.{refl}
use Rattle.span_dispatch.proofs.Ready.{same_ready}
use Rattle.span_dispatch.proofs.Registered.{registered_still}
use Rattle.span_dispatch.proofs.dispatch.Dispatch.reserve_callsites.Goals as goal

pub returns-clause-registered : goal.returns-clause-registered
returns-clause-registered g c = registered_still c.args.self.now (record c.args.self.now { cache = c.reserve.new.self }) refl c.reserve.ensures.lasts

pub returns-clause-ready : goal.returns-clause-ready
returns-clause-ready g c = same_ready c.args.self.now (record c.args.self.now { cache = c.reserve.new.self }) refl (λ f d u. c.reserve.ensures.kept f d u)
