use Rattle.span_stacks.proofs.FilteredHooks.{by_admitted, filtered_notified, filtered_skips, handed_on}
use Rattle.span_stacks.proofs.filtered.FilteredLayer.notify.Goals as goal
use Rattle.span_registry.specs.Notice.{notice_of}

pub returns-then-not-admits-clause-hook : goal.returns-then-not-admits-clause-hook
returns-then-not-admits-clause-hook g c =
    filtered_skips g.F.Filter.hooked g.L.Layer.stepped g.F.Filter.has_answers g.L.Layer.has_form g.S.LookupSpan.registry
    (notice_of c.args.notice) c.args.self.now
    c.args.ctx.now (by_admitted g.S.LookupSpan.registry c.args.self.now.id (notice_of c.args.notice) c.args.ctx.now _ c.if-not-admits.ensures)

pub returns-clause-hook : goal.returns-clause-hook
returns-clause-hook g c =
    filtered_notified g.F.Filter.hooked g.L.Layer.stepped g.F.Filter.has_answers g.L.Layer.has_form g.S.LookupSpan.registry
    (notice_of c.args.notice) c.args.self.now _ _ c.args.ctx.now c.notify.new.ctx c.restore_mask.new.self _
    (by_admitted g.S.LookupSpan.registry c.args.self.now.id (notice_of c.args.notice) c.args.ctx.now _ c.if-not-admits.ensures)
    c.narrow-before.ensures.narrowed c.notify_filter.ensures.hook
    (handed_on g.S.LookupSpan.registry c.notify_filter.ensures.written) c.notify.ensures.hook c.restore_mask.ensures
