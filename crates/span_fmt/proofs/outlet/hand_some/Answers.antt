use Rattle.span_fmt.proofs.Handed.{kept_none}
use Rattle.span_fmt.proofs.outlet.hand_some.Goals as goal

pub returns-in-Err-clause-taken : goal.returns-in-Err-clause-taken
returns-in-Err-clause-taken g c = kept_none _ _ c.in-Err.ensures.bytes
