use Rattle.std.proofs.Common.{◌≡◌, map, subst, sym}
use Rattle.span_core.specs.Event.{event_parent}
use Rattle.span_core.specs.Span.{number_of}
use Rattle.span_registry.specs.Context.{view_lent}
use Rattle.span_registry.specs.Notice.{notice_of}
use Rattle.span_registry.specs.View.{event_shown, shown}
use Rattle.span_registry.specs.declared.notice.Notice.{Notice as NoticeInCode}
use Rattle.span_fmt.proofs.Interleaving.{ids_above, ids_round}
use Rattle.span_fmt.specs.Interleaved.{spans_about}
use Rattle.span_fmt.specs.Tree.{given}
use Rattle.span_fmt.proofs.interleaved.scope_about.Goals as goal

pub returns-in-NewSpan : goal.returns-in-NewSpan
returns-in-NewSpan g c =
    let registry = g.S.LookupSpan.registry in
    let ctx = c.args.ctx.now in
    subst (λ (n : NoticeInCode). map (λ r. r.id) (given registry c.above.result) ≡ spans_about (notice_of n) (view_lent registry ctx)) (sym c.in-NewSpan.is)
    (ids_above registry ctx c.ctx-look.result (shown (number_of c.in-NewSpan.id)) c.span_scope.result c.above.result
    c.ctx-look.ensures c.span_scope.ensures c.above.ensures)

pub returns-in-Record : goal.returns-in-Record
returns-in-Record g c =
    let registry = g.S.LookupSpan.registry in
    let ctx = c.args.ctx.now in
    subst (λ (n : NoticeInCode). map (λ r. r.id) (given registry c.above-in-Record.result) ≡ spans_about (notice_of n) (view_lent registry ctx))
    (sym c.in-Record.is)
    (ids_above registry ctx c.ctx-look.result (shown (number_of c.in-Record.id)) c.span_scope-in-Record.result c.above-in-Record.result
    c.ctx-look.ensures c.span_scope-in-Record.ensures c.above-in-Record.ensures)

pub returns-in-Close : goal.returns-in-Close
returns-in-Close g c =
    let registry = g.S.LookupSpan.registry in
    let ctx = c.args.ctx.now in
    subst (λ (n : NoticeInCode). map (λ r. r.id) (given registry c.above-in-Close.result) ≡ spans_about (notice_of n) (view_lent registry ctx))
    (sym c.in-Close.is)
    (ids_above registry ctx c.ctx-look.result (shown (number_of c.in-Close.id)) c.span_scope-in-Close.result c.above-in-Close.result
    c.ctx-look.ensures c.span_scope-in-Close.ensures c.above-in-Close.ensures)

pub returns-in-Event : goal.returns-in-Event
returns-in-Event g c =
    let registry = g.S.LookupSpan.registry in
    let ctx = c.args.ctx.now in
    subst (λ (n : NoticeInCode). map (λ r. r.id) (given registry c.event_scope.result) ≡ spans_about (notice_of n) (view_lent registry ctx)) (sym c.in-Event.is)
    (ids_round registry ctx c.ctx-look.result (event_shown (event_parent c.in-Event.event.now)) c.event_scope.result c.ctx-look.ensures c.event_scope.ensures)
