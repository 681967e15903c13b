use Rattle.std.proofs.Common.{[], sym, append-nil, ◌∙◌, refl}
use Rattle.span_sender.specs.Run.{GaveUp}
use Rattle.span_sender.specs.Batches.{held_by}
use Rattle.span_sender.proofs.Sending.{one}
use Rattle.span_sender.proofs.Worked.{goes_on, popped_all, popped_left}
use Rattle.span_sender.proofs.worker.Worker.give_up.Goals as goal

pub loop-preserved : goal.loop-preserved
loop-preserved g c =
    let popped = c.pop_known-span.ensures.received in
    record {
      left = popped_left _ _ _ _ _ popped.1 c.loop.invariant.left;
      all = popped_all _ _ _ _ _ _ popped.0 popped.1 c.loop.invariant.all;
      empty = c.give_up_one.ensures.held;
      kept = λ first h.
          goes_on g.P.Poster.posted first _ _ _ (c.loop.invariant.kept first h) c.pop_known-span.ensures.ring popped.0 (c.give_up_one.ensures.sends _);
    }

pub returns-clause-kept : goal.returns-clause-kept
returns-clause-kept g c = λ first h.
    let looked = c.slots_beside-left.ensures.looked in
    c.loop.invariant.kept first (goes_on g.P.Poster.posted first _ _ [] h looked.0 (looked.1 ∙ sym (append-nil _))
    (one _ _ (GaveUp (held_by c.args.self.now.batches)) _ refl (refl, c.give_up.ensures)))
