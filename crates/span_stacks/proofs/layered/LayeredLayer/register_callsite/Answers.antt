use Rattle.std.proofs.Common.{refl}
use Rattle.span_stacks.proofs.Parts.{sums_always, sums_marked, sums_never, sums_sometimes}
use Rattle.span_registry.specs.Form.{InPair}
use Rattle.span_stacks.proofs.layered.LayeredLayer.register_callsite.Goals as goal

pub returns-then-is_filtered : goal.returns-then-is_filtered
returns-then-is_filtered g c n = sums_marked _ InPair refl c.if-is_filtered.ensures (c.register_callsite-outer.ensures n) (c.register_callsite.ensures n)

pub returns-in-Never : goal.returns-in-Never
returns-in-Never g c n =
    sums_never _ InPair refl c.if-is_filtered.ensures (c.in-Never.ensures n) c.clear_interest.ensures.interest c.clear_interest.ensures.refused

pub returns-in-Sometimes : goal.returns-in-Sometimes
returns-in-Sometimes g c n = sums_sometimes _ InPair refl c.if-is_filtered.ensures (c.in-Sometimes.ensures n) (c.register_callsite-in-Sometimes.ensures n)

pub returns-in-Always : goal.returns-in-Always
returns-in-Always g c n = sums_always _
    InPair refl c.if-is_filtered.ensures (c.in-Always.ensures n) c.is_filtered-calm.ensures (c.register_callsite-in-Always.ensures n) c.calmed.ensures
