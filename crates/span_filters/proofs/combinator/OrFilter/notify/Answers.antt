use Rattle.span_filters.proofs.Hooks.{notified_both}
use Rattle.span_filters.proofs.combinator.OrFilter.notify.Goals as goal

pub returns-clause-hook : goal.returns-clause-hook
returns-clause-hook g c =
    notified_both g.S.LookupSpan.registry
    g.S.LookupSpan.with_registry g.A.Filter.hooked g.B.Filter.hooked _ _ _ c.args.ctx.now c.notify.new.ctx c.notify-2.new.ctx _ _
    c.notify.ensures.hook c.notify.ensures.written c.notify-2.ensures.hook
