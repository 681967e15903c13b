use Rattle.std.proofs.Common.{refl}
use Rattle.span_registry.specs.Context.{filters_lent, lane_lent, subscriber_lent, view_lent}
use Rattle.span_examples.specs.Outline.{line_of}
use Rattle.span_examples.proofs.Lines.{event_written}
use Rattle.span_examples.proofs.outline.OutlineObserve.observe.Goals as goal

pub returns-in-Event-clause-hook : goal.returns-in-Event-clause-hook
returns-in-Event-clause-hook g c =
    let ctx = c.args.ctx.now in
    let s = (g.S.LookupSpan.registry (subscriber_lent ctx)).store in
    let law = c.extensions_change_no_look_up.ensures s (lane_lent ctx).0 (filters_lent ctx) in
    let written = c.write.ensures (line_of c.in-Event.event.now (view_lent g.S.LookupSpan.registry ctx)) c.line_seen-line.ensures in
    (event_written _ _ s (lane_lent ctx).0 (filters_lent ctx) _ _ law c.in-Event.is written, refl)
