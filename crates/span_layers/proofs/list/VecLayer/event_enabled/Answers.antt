use Rattle.std.proofs.Common.{Bool, ◌<◌, length, get_or, arith, ap, refl, ◌∙◌}
use Rattle.span_layers.proofs.MemberLoops.{less_left}
use Rattle.span_layers.proofs.MembersAsked.{one_passes}
use Rattle.span_core.specs.Filters.{FilterSet}
use Rattle.span_registry.specs.Form.{Form}
use Rattle.span_registry.specs.Context.{filters_in, lane_in, store_in}
use Rattle.span_registry.specs.Question.{event_asked}
use Rattle.span_layers.proofs.list.VecLayer.event_enabled.Goals as goal

pub loop-member-preserved : goal.loop-member-preserved
loop-member-preserved g c =
    let same = c.deref-member-items.ensures.value in
    let xs = c.args.self.now.items in
    let i = c.loop-member.member-index in
    let x = c.member-item.result in
    let is = c.member-item.is ∙ ap (λ l. get_or l i x) same in
    let within : c.loop-member.member-index < length c.args.self.now.items = omega (arith, ap length same, c.loop-member-test.true) in
    let question : Form → FilterSet → Bool × FilterSet =
    λ f. event_asked f c.args.event.now (store_in g.S.LookupSpan.registry c.args.ctx.now) (lane_in c.args.ctx.now).0 (filters_in c.args.ctx.now) in
    less_left g.L.Layer.has_form xs _ xs i x within is _ (λ f o r form.
    one_passes question (λ p q n. refl) c.args.pass.now c.loop-member.pass c.event_enabled.new.pass f o r (c.if-not-event_enabled.ensures o form))
    c.loop-member.invariant
