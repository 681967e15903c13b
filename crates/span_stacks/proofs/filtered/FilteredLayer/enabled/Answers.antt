use Rattle.std.proofs.Common.{refl}
use Rattle.span_stacks.proofs.FilteredQuestions.{filter_passes, filter_refuses}
use Rattle.span_stacks.proofs.filtered.FilteredLayer.enabled.Goals as goal
use Rattle.span_registry.specs.Question.{asked}

pub returns-then-not-enabled : goal.returns-then-not-enabled
returns-then-not-enabled g c =
    filter_refuses g.S.LookupSpan.registry c.args.self.now.id (g.F.Filter.has_answers c.args.self.now.filter) (g.L.Layer.has_form c.args.self.now.layer)
    (λ f s lane set refused. asked f c.args.meta.now s lane set refused) (λ a v. a.enabled c.args.meta.now v) c.args.ctx.now c.with_filter-inner.result
    c.with_filter-inner.ensures c.if-is_unattached.ensures c.args.pass.now (λ n h a f. refl)
    c.set.new.self c.if-not-enabled.ensures c.set.ensures.members c.set.ensures.interest

pub returns : goal.returns
returns g c =
    filter_passes g.S.LookupSpan.registry c.args.self.now.id (g.F.Filter.has_answers c.args.self.now.filter) (g.L.Layer.has_form c.args.self.now.layer)
    (λ f s lane set refused. asked f c.args.meta.now s lane set refused) (λ a v. a.enabled c.args.meta.now v) c.args.ctx.now c.with_filter-inner.result
    c.with_filter-inner.ensures c.if-is_unattached.ensures c.args.pass.now (λ n h a f. refl)
    c.set-2.new.self _ _ c.if-not-enabled.ensures c.set-2.ensures.members c.set-2.ensures.interest c.enabled-2.ensures
