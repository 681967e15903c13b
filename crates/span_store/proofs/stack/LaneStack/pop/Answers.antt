use Rattle.std.proofs.Common.{◌≤◌, ℕ, List, ◌∙◌, ap, sym, subst, arith}
use Rattle.span_core.specs.Span.{number_of}
use Rattle.span_store.specs.LaneStack.{HeldStack, leave, without_duplicates}
use Rattle.span_store.specs.private.Index.{times}
use Rattle.span_store.proofs.Distinct.{left_for_good, left_again, once}
use Rattle.span_store.proofs.stack.LaneStack.pop.Goals as goal

pub take_out-requires : goal.take_out-requires
take_out-requires c =
    let x = number_of c.args.id in
    subst (λ (us : List ℕ). times x us ≤ 1) (sym c.self.invariant.0) (once x (c.self.inside.entries).spans)

pub invariant_of-self : goal.invariant_of-self
invariant_of-self c =
    let x = number_of c.args.id in
    let left = c.pop.ensures.left in (
      c.take_out.ensures.left ∙ ap (leave x) c.self.invariant.0
          ∙ sym (ap (λ (s : HeldStack). without_duplicates s.spans) left
          ∙ left_for_good x (c.self.inside.entries).spans (sym c.in-Some.ensures.for_good)),
      let same = ap (λ (s : HeldStack). s.room) left in let kept = c.take_out.ensures.capacity in let room = c.self.invariant.1 in omega arith,
    )

pub invariant_of-self-in-None : goal.invariant_of-self-in-None
invariant_of-self-in-None c =
    let x = number_of c.args.id in
    let left = c.pop.ensures.left in (
      c.self.invariant.0
          ∙ sym (ap (λ (s : HeldStack). without_duplicates s.spans) left
          ∙ left_again x (c.self.inside.entries).spans (sym c.in-None.ensures.for_good)),
      let same = ap (λ (s : HeldStack). s.room) left in let room = c.self.invariant.1 in omega arith,
    )
