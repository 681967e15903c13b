use Rattle.std.proofs.Common.{refl, ap, ◌∙◌, ◌||◌}
use Rattle.span_stacks.proofs.Parts.{sums_always, sums_marked, sums_never, sums_sometimes}
use Rattle.span_registry.specs.Form.{OnSubscriber, is_base}
use Rattle.span_stacks.proofs.stack.LayeredSubscriber.register_callsite.Goals as goal
use Rattle.span_stacks.proofs.stack.LayeredSubscriber.register_callsite.Goals.{then-is_filtered-2, else-is_filtered-2}

pub returns-then-is_filtered : goal.returns-then-is_filtered
returns-then-is_filtered g c = sums_marked _ OnSubscriber refl c.if-is_filtered.ensures (c.register_callsite-outer.ensures _) c.register_callsite.ensures

pub returns-in-Never : goal.returns-in-Never
returns-in-Never g c =
    sums_never _ OnSubscriber refl c.if-is_filtered.ensures (c.in-Never.ensures _) c.clear_interest.ensures.interest c.clear_interest.ensures.refused

pub returns-in-Sometimes : goal.returns-in-Sometimes
returns-in-Sometimes g c = sums_sometimes _ OnSubscriber refl c.if-is_filtered.ensures (c.in-Sometimes.ensures _) c.register_callsite-in-Sometimes.ensures

pub returns-in-Always : goal.returns-in-Always
returns-in-Always g c =
    sums_always _ OnSubscriber refl c.if-is_filtered.ensures (c.in-Always.ensures _)
    (λ f h. elim c.if-is_filtered-2.branch [
      | then-is_filtered-2 w ↦ w.calm-is ∙ w.if-is_filtered-2.true ∙ ap (λ b. b || is_base f) (w.if-is_filtered-2.ensures f h)
      | else-is_filtered-2 w ↦ w.calm-is ∙ w.is_registry-calm.ensures f h ∙ ap (λ b. b || is_base f) (w.if-is_filtered-2.ensures f h)
    ])
    c.register_callsite-in-Always.ensures c.calmed.ensures
