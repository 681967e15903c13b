use Rattle.span_sender.proofs.worker.Worker.run.Goals as goal
use Rattle.span_sender.proofs.worker.Worker.run.Goals.{in-None, in-Some+then-not-go_on}

pub returns : goal.returns
returns g c = λ first h.
    elim c.match-next.branch [
      | in-None w ↦ rw w.worker-is (c.loop.invariant first h)
      | in-Some+then-not-go_on w ↦ rw w.worker-is (w.go_on.ensures first (c.loop.invariant first h))
    ]
