use Rattle.span_sender.proofs.Runs.{loses_none}
use Rattle.span_sender.proofs.laws.no_span_is_lost.Goals as goal

pub returns : goal.returns
returns c config old new events n h = loses_none config old new events n h
