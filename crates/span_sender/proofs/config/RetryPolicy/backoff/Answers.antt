use Rattle.std.proofs.Common.{arith}
use Rattle.span_sender.proofs.Doubled.{power}
use Rattle.span_sender.proofs.config.RetryPolicy.backoff.Goals as goal

pub loop-doubled-preserved : goal.loop-doubled-preserved
loop-doubled-preserved c =
    let p = power c.args.self.initial_backoff c.loop-doubled._doubled c.args.self.max_backoff in
    grind (arith, p, c.min-wait-in-loop-doubled.ensures, c.saturating_mul.ensures, c.loop-doubled.invariant)
