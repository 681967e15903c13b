use Rattle.std.proofs.Common.{refl}
use Rattle.span_stacks.proofs.FilteredQuestions.{filter_passes, filter_refuses, none_refused, passed_before, refused_before}
use Rattle.span_stacks.proofs.filtered.FilteredLayer.event_enabled.Goals as goal
use Rattle.span_registry.specs.Question.{event_asked}
use Rattle.span_registry.specs.Context.{filters_in, lane_in, store_in}

pub returns-then-not-is_enabled : goal.returns-then-not-is_enabled
returns-then-not-is_enabled g c =
    refused_before c.args.self.now.id
    c.args.event.now (store_in g.S.LookupSpan.registry c.args.ctx.now) (lane_in c.args.ctx.now).0 (filters_in c.args.ctx.now) c.args.pass.now
    (g.F.Filter.has_answers c.args.self.now.filter) (g.L.Layer.has_form c.args.self.now.layer)
    c.refused.ensures c.if-not-is_enabled.ensures

pub returns-then-not-event_enabled : goal.returns-then-not-event_enabled
returns-then-not-event_enabled g c =
    filter_refuses g.S.LookupSpan.registry c.args.self.now.id (g.F.Filter.has_answers c.args.self.now.filter) (g.L.Layer.has_form c.args.self.now.layer)
    (λ f s lane set refused. event_asked f c.args.event.now s lane set refused) (λ a v. a.event c.args.event.now v) c.args.ctx.now c.with_filter-inner.result
    c.with_filter-inner.ensures c.if-is_unattached.ensures c.args.pass.now
    (passed_before c.args.self.now.id c.args.event.now _ _ _ c.args.pass.now c.refused.ensures c.if-not-is_enabled.ensures)
    c.set.new.self c.if-not-event_enabled.ensures c.set.ensures.members c.set.ensures.interest

pub returns : goal.returns
returns g c =
    filter_passes g.S.LookupSpan.registry c.args.self.now.id (g.F.Filter.has_answers c.args.self.now.filter) (g.L.Layer.has_form c.args.self.now.layer)
    (λ f s lane set refused. event_asked f c.args.event.now s lane set refused) (λ a v. a.event c.args.event.now v) c.args.ctx.now c.with_filter-inner.result
    c.with_filter-inner.ensures c.if-is_unattached.ensures c.args.pass.now
    (passed_before c.args.self.now.id c.args.event.now _ _ _ c.args.pass.now c.refused.ensures c.if-not-is_enabled.ensures)
    c.args.pass.now _ _ c.if-not-event_enabled.ensures
    (none_refused c.args.self.now.id c.args.pass.now c.refused.ensures c.if-not-is_enabled.ensures) refl c.event_enabled-2.ensures
