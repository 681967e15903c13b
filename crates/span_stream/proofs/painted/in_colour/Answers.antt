use Rattle.std.proofs.Common.{inr}
use Rattle.std.proofs.lemmas.Result.{IfOk-weaker}
use Rattle.span_stream.proofs.painted.in_colour.Goals as goal

pub returns-in_default : goal.returns-in_default
unfolding lib.Utf8.encode
returns-in_default c = IfOk-weaker c.from_str.result _ _ (λ text is. inr (c.in_default.ensures.cases, is)) c.from_str.ensures.ok
