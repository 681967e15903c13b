use Rattle.span_times.proofs.Turns.{busy_and_idle}
use Rattle.span_times.proofs.laws.busy_and_idle_are_open.Goals as goal

pub returns : goal.returns
returns c = busy_and_idle
