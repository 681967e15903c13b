use Rattle.std.proofs.Common.{sym, [], refl, Option, List, ℕ}
use Rattle.span_sender.specs.Run.{Looked, Sends}
use Rattle.span_sender.specs.declared.answer.Answer.{Answer}
use Rattle.span_sender.specs.declared.batches.Batches.{Batches}
use Rattle.span_sender.specs.Batches.{HoldsSame, counts_of}
use Rattle.span_sender.proofs.Sending.{Sends-trans, one, tried}
use Rattle.span_sender.proofs.send.serve.Goals as goal

-- a queue that was asked sends nothing
asked : (a b : Batches) (p : Option (List (List ℕ × Answer))) → HoldsSame a b (counts_of a) → Sends a b p p []
asked a b p h = one a b Looked p refl (record { held = h.held; counts = h.counts_now })

pub returns-then-try_batch-clause-sends : goal.returns-then-try_batch-clause-sends
returns-then-try_batch-clause-sends g c =
    Sends-trans _ _ _ _ _ _ [] [] (asked _ _ (g.P.Poster.posted c.args.poster.now) c.next.ensures.held)
    (tried _ _ _ _ (c.try_batch.ensures.posted c.if-try_batch.true))

pub returns-else-try_batch-clause-sends : goal.returns-else-try_batch-clause-sends
returns-else-try_batch-clause-sends g c =
    let same = c.try_batch.ensures.none c.if-try_batch.false in
    rw (same.0, same.1) (asked _ _ (g.P.Poster.posted c.args.poster.now) c.next.ensures.held)

pub returns-in-Until-clause-sends : goal.returns-in-Until-clause-sends
returns-in-Until-clause-sends g c = asked _ _ (g.P.Poster.posted c.args.poster.now) c.next.ensures.held

pub returns-in-Idle-clause-sends : goal.returns-in-Idle-clause-sends
returns-in-Idle-clause-sends g c = asked _ _ (g.P.Poster.posted c.args.poster.now) c.next.ensures.held

pub returns-then-try_batch-clause-posts : goal.returns-then-try_batch-clause-posts
returns-then-try_batch-clause-posts g c =
    λ _. record {
      mid = c.next.new.self;
      due = sym c.in-Post.ensures.action;
      begun = c.next.ensures.held;
      batch = c.in-Post.ensures.post refl;
      tries = c.try_batch.ensures.posted c.if-try_batch.true;
    }
