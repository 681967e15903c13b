use Rattle.std.proofs.Common.{◌<◌, length, get_or, arith, ap, ◌∙◌}
use Rattle.span_layers.proofs.MemberLoops.{less_left}
use Rattle.span_layers.proofs.MembersAsked.{one_hinted}
use Rattle.span_layers.proofs.list.VecLayer.max_level_hint.Goals as goal

pub loop-member-preserved : goal.loop-member-preserved
loop-member-preserved g c =
    let same = c.deref-member-items.ensures.value in
    let xs = c.args.self.now.items in
    let i = c.loop-member.member-index in
    let x = c.member-item.result in
    let is = c.member-item.is ∙ ap (λ l. get_or l i x) same in
    let within : c.loop-member.member-index < length c.args.self.now.items = omega (arith, ap length same, c.loop-member-test.true) in
    less_left g.L.Layer.has_form xs _ xs i x within is _ (λ f o r form.
    one_hinted c.loop-member.widest c.max_level_hint.result c.wider_of-widest.result c.wider_of-widest.ensures f o r (c.max_level_hint.ensures o form))
    c.loop-member.invariant
