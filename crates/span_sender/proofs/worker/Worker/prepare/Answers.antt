use Rattle.std.proofs.Common.{refl}
use Rattle.span_sender.specs.Run.{Looked}
use Rattle.span_sender.proofs.Sending.{one}
use Rattle.span_sender.proofs.Worked.{goes_on_alone}
use Rattle.span_sender.proofs.worker.Worker.prepare.Goals as goal

pub returns-then-closed : goal.returns-then-closed
returns-then-closed g c = λ first h.
    let same = c.flush.ensures.same in
    goes_on_alone g.P.Poster.posted first _ _ (c.take_waiting.ensures first h) refl
    (one _ _ Looked _ refl (record { held = same.held; counts = same.counts }))
