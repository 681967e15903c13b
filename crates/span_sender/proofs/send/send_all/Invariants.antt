use Rattle.std.proofs.Common.{[]}
use Rattle.span_sender.specs.Run.{Sends}
use Rattle.span_sender.proofs.send.send_all.Given as goal

abbrev pub invariant-loop : goal.invariant-loop
invariant-loop g l =
    Sends l.fn.batches l.batches (g.P.Poster.posted l.fn.poster) (g.P.Poster.posted l.poster) []
