use Rattle.std.proofs.Common.{refl, rules}
use Rattle.span_dispatch.proofs.Ready.{same_ready}
use Rattle.span_dispatch.proofs.Registered.{registered_still}
use Rattle.span_dispatch.proofs.dispatch.Dispatch.register_callsite.Goals as goal

pub returns-in-Err-clause-registered : goal.returns-in-Err-clause-registered
returns-in-Err-clause-registered g c = registered_still c.args.self.now (record c.args.self.now { cache = c.interest.new.self }) refl c.in-Err.ensures.lasts

pub returns-in-Ok-clause-registered : goal.returns-in-Ok-clause-registered
returns-in-Ok-clause-registered g c = registered_still c.args.self.now (record c.args.self.now { cache = c.interest.new.self }) refl c.in-Ok.ensures.lasts

pub returns-in-Err-clause-ready : goal.returns-in-Err-clause-ready
returns-in-Err-clause-ready g c =
    same_ready c.args.self.now (record c.args.self.now { cache = c.interest.new.self }) refl (λ f d u. c.in-Err.ensures.kept f d u)

pub returns-in-Ok-clause-ready : goal.returns-in-Ok-clause-ready
returns-in-Ok-clause-ready g c = same_ready c.args.self.now (record c.args.self.now { cache = c.interest.new.self }) refl (λ f d u. c.in-Ok.ensures.kept f d u)

pub returns-in-Err-clause-learns : goal.returns-in-Err-clause-learns
returns-in-Err-clause-learns g c = record {
  rest = search rules;
  learned = search rules;
  hint = search rules;
  keeps = search rules;
  above = search rules;
  mismatch = search rules;
  refused = search rules;
  unchanged = search rules;
  up_to_date = search rules;
}

pub returns-in-Ok-clause-learns : goal.returns-in-Ok-clause-learns
returns-in-Ok-clause-learns g c = record {
  rest = search rules;
  learned = search rules;
  hint = search rules;
  keeps = search rules;
  above = search rules;
  mismatch = search rules;
  refused = search rules;
  unchanged = search rules;
  up_to_date = search rules;
}
