use Rattle.span_dispatch.proofs.Stores.{opens_span}
use Rattle.span_dispatch.proofs.dispatch.Dispatch.new_span_by.Goals as goal

pub returns-clause-opens : goal.returns-clause-opens
returns-clause-opens g c = opens_span c.open.new.pass c.open.ensures.opens
