use Rattle.std.proofs.Common.{◌≡◌, ◌*◌, ◌^◌, min}
use Rattle.span_sender.proofs.config.RetryPolicy.backoff.Given as goal

abbrev pub invariant-loop-doubled : goal.invariant-loop-doubled
invariant-loop-doubled l =
    l.wait ≡ min (l.self.initial_backoff * 2 ^ l._doubled) l.self.max_backoff
