use Rattle.std.proofs.Common.{◌<◌, ◌≤◌, length, get_or, arith, ap, ◌∙◌}
use Rattle.span_layers.proofs.MemberLoops.{less_left, none_left}
use Rattle.span_layers.proofs.MembersAsked.{all_summed, one_summed}
use Rattle.span_layers.proofs.list.VecLayer.register_callsite.Goals as goal

pub loop-member-preserved : goal.loop-member-preserved
loop-member-preserved g c =
    let same = c.deref-member-items.ensures.value in
    let xs = c.args.self.now.items in
    let i = c.loop-member.member-index in
    let x = c.member-item.result in
    let is = c.member-item.is ∙ ap (λ l. get_or l i x) same in
    let within : c.loop-member.member-index < length c.args.self.now.items = omega (arith, ap length same, c.loop-member-test.true) in
    λ filters. less_left g.L.Layer.has_form xs _ xs i x within is _
    (λ f o r form.
    one_summed c.args.meta.now filters c.args.pass.now c.loop-member.pass c.register_callsite.new.pass c.loop-member.highest c.register_callsite.result
    c.higher_of-highest.result c.higher_of-highest.ensures f o r (c.register_callsite.ensures filters o form)) (c.loop-member.invariant filters)

pub returns : goal.returns
returns g c filters =
    let all : length c.args.self.now.items ≤ c.loop-member.member-index =
    omega (arith, ap length c.deref-member-items.ensures.value, c.loop-member-test.false) in
    none_left g.L.Layer.has_form c.args.self.now.items _ c.args.self.now.items c.loop-member.member-index
    _ all (all_summed c.args.meta.now filters c.args.pass.now c.loop-member.pass c.loop-member.highest) (c.loop-member.invariant filters)
