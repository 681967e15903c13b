use Rattle.std.proofs.Common.{◌<◌, ◌≤◌, length, get_or, arith, ap, ◌∙◌}
use Rattle.span_layers.proofs.MemberLoops.{less_left, none_left}
use Rattle.span_layers.proofs.MembersAsked.{all_counted, one_counted}
use Rattle.span_layers.proofs.list.VecLayer.filter_count.Goals as goal

pub loop-member-preserved : goal.loop-member-preserved
loop-member-preserved g c =
    let same = c.deref-member-items.ensures.value in
    let xs = c.args.self.now.items in
    let i = c.loop-member.member-index in
    let x = c.member-item.result in
    let is = c.member-item.is ∙ ap (λ l. get_or l i x) same in
    let within : c.loop-member.member-index < length c.args.self.now.items = omega (arith, ap length same, c.loop-member-test.true) in
    less_left g.L.Layer.has_form xs _ xs i x within is _ (λ f o r form.
    one_counted c.loop-member.count c.filter_count.result c.saturating_add-count.result c.saturating_add-count.ensures f o r (c.filter_count.ensures o form))
    c.loop-member.invariant

pub returns : goal.returns
returns g c =
    let all : length c.args.self.now.items ≤ c.loop-member.member-index =
    omega (arith, ap length c.deref-member-items.ensures.value, c.loop-member-test.false) in
    none_left g.L.Layer.has_form
    c.args.self.now.items _ c.args.self.now.items c.loop-member.member-index _ all (all_counted c.loop-member.count) c.loop-member.invariant
