use Rattle.std.proofs.Common.{[], refl, Option, List, ℕ}
use Rattle.span_sender.specs.Run.{GaveUp, Looked, Sends}
use Rattle.span_sender.specs.declared.answer.Answer.{Answer}
use Rattle.span_sender.specs.declared.batches.Batches.{Batches}
use Rattle.span_sender.specs.Batches.{GivesUp, IsAsBefore, held_by}
use Rattle.span_sender.proofs.Sending.{Sends-trans, one}
use Rattle.span_sender.proofs.send.send_all.Goals as goal
use Rattle.span_sender.proofs.send.send_all.Goals.{in-None, in-Some+then-now-deadline, in-Some+else-now-deadline+in-Idle}

-- a queue that is flushed, and then served
served : (a b c d : Batches) (p q r : Option (List (List ℕ × Answer))) → Sends a b p q [] → IsAsBefore b c → Sends c d q r [] → Sends a d p r []
served a b c d p q r h f k =
    let flushed : Sends b c q q [] = one b c Looked q refl (record { held = f.held; counts = f.counts }) in
    Sends-trans _ _ _ _ _ _ [] [] h (Sends-trans _ _ _ _ _ _ [] [] flushed k)

-- a queue that is given up
given_up : (a b c : Batches) (p q : Option (List (List ℕ × Answer))) → Sends a b p q [] → GivesUp b c → Sends a c p q []
given_up a b c p q h k = Sends-trans _ _ _ _ _ _ [] [] h (one b c (GaveUp (held_by b)) q refl (refl, k))

pub loop-preserved-in-Until : goal.loop-preserved-in-Until
loop-preserved-in-Until g c = served _ _ _ _ _ _ _ c.loop.invariant c.flush.ensures.same c.serve.ensures.sends

pub loop-preserved : goal.loop-preserved
loop-preserved g c = served _ _ _ _ _ _ _ c.loop.invariant c.flush.ensures.same c.serve.ensures.sends

pub returns-clause-sends : goal.returns-clause-sends
returns-clause-sends g c =
    elim c.match-next.branch [
      | in-None w ↦ rw (w.batches-is, w.poster-is) c.loop.invariant
      | in-Some+then-now-deadline w ↦ rw (w.batches-is, w.poster-is) (given_up _ _ _ _ _ c.loop.invariant w.give_up.ensures)
      | in-Some+else-now-deadline+in-Idle w ↦ rw (w.batches-is, w.poster-is)
          (served _ _ _ _ _ _ _ c.loop.invariant w.flush.ensures.same w.serve.ensures.sends)
    ]
