use Rattle.std.proofs.Common.{sym}
use Rattle.span_sender.proofs.guard.SenderGuard.finish.Goals as goal

pub returns-clause-all : goal.returns-clause-all
returns-clause-all g c =
    let sent = c.give_up.ensures.kept _ c.join-worker.ensures in
    record {
      last = c.give_up.new.self.batches;
      sends = rw (c.into_parts-poster.ensures.poster, ← c.give_up.ensures.all) sent.sends;
      empty = c.give_up.ensures.empty;
      counted = sym c.into_parts-poster.ensures.counts;
    }
