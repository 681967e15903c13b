use Rattle.std.proofs.Common.{subst, sym}
use Rattle.std.specs.Prelude.{IfOk, OnErr, string_bytes}
use Rattle.span_registry.specs.Notice.{notice_of}
use Rattle.span_registry.specs.declared.notice.Notice.{Notice as NoticeInCode}
use Rattle.span_registry.specs.Context.{filters_lent, lane_lent, subscriber_lent, view_lent}
use Rattle.span_fmt.proofs.Around.{event_plainly}
use Rattle.span_fmt.proofs.Noted.{event_given, event_missed, span_missed, span_noted}
use Rattle.span_fmt.specs.Form.{plainly_lent}
use Rattle.span_fmt.specs.Forms.{known_by_form, lines_give, lines_miss, names_by_form}
use Rattle.span_fmt.specs.Lines.{event_line}
use Rattle.span_fmt.proofs.forms.LinesFormForm.line.Goals as goal

pub returns-in-NewSpan-clause-given : goal.returns-in-NewSpan-clause-given
returns-in-NewSpan-clause-given g c =
    let v = plainly_lent g.S.LookupSpan.registry c.args.ctx.now in
    let x = c.args.self.now in
    let y = c.note.new.self in
    subst (λ (n : NoticeInCode). IfOk c.note.result (λ line. lines_give x (notice_of n) v (string_bytes line) y))
    (sym c.in-NewSpan.is) (span_noted c.note.result c.in-NewSpan.attrs.now c.in-NewSpan.id v x y c.values.result.now c.values.ensures c.note.ensures.noted
    c.note.ensures.names)

pub returns-in-NewSpan-clause-missed : goal.returns-in-NewSpan-clause-missed
returns-in-NewSpan-clause-missed g c =
    let v = plainly_lent g.S.LookupSpan.registry c.args.ctx.now in
    let x = c.args.self.now in
    let y = c.note.new.self in
    subst (λ (n : NoticeInCode). OnErr c.note.result (lines_miss x (notice_of n) v y)) (sym c.in-NewSpan.is) (span_missed c.note.result
    c.in-NewSpan.attrs.now c.in-NewSpan.id v x y c.values.result.now c.values.ensures c.note.ensures.unchanged c.note.ensures.refused c.note.ensures.names)

pub returns-in-Event-clause-given : goal.returns-in-Event-clause-given
returns-in-Event-clause-given g c =
    let ctx = c.args.ctx.now in
    let registry = g.S.LookupSpan.registry in
    let s = (registry (subscriber_lent ctx)).store in
    let x = c.args.self.now in
    let e = c.in-Event.event.now in
    let law = c.extensions_change_no_look_up.ensures s (lane_lent ctx).0 (filters_lent ctx) in
    subst (λ (n : NoticeInCode). IfOk c.line_due.result (λ line. lines_give x (notice_of n) (plainly_lent registry ctx) (string_bytes line) x))
    (sym c.in-Event.is)
    (event_given c.line_due.result e (plainly_lent registry ctx) x (event_line (names_by_form x) e (view_lent registry ctx) (known_by_form x))
    c.line_due.ensures.text (event_plainly s (lane_lent ctx).0 (filters_lent ctx) law (names_by_form x) e (known_by_form x)))

pub returns-in-Event-clause-missed : goal.returns-in-Event-clause-missed
returns-in-Event-clause-missed g c =
    let ctx = c.args.ctx.now in
    let registry = g.S.LookupSpan.registry in
    let s = (registry (subscriber_lent ctx)).store in
    let x = c.args.self.now in
    let e = c.in-Event.event.now in
    let law = c.extensions_change_no_look_up.ensures s (lane_lent ctx).0 (filters_lent ctx) in
    subst (λ (n : NoticeInCode). OnErr c.line_due.result (lines_miss x (notice_of n) (plainly_lent registry ctx) x))
    (sym c.in-Event.is)
    (event_missed c.line_due.result e (plainly_lent registry ctx) x (event_line (names_by_form x) e (view_lent registry ctx) (known_by_form x))
    c.line_due.ensures.refused (event_plainly s (lane_lent ctx).0 (filters_lent ctx) law (names_by_form x) e (known_by_form x)))
