use Rattle.std.proofs.Common.{subst, sym}
use Rattle.std.specs.Prelude.{IfOk, OnErr, string_bytes}
use Rattle.span_registry.specs.Notice.{notice_of}
use Rattle.span_registry.specs.declared.notice.Notice.{Notice as NoticeInCode}
use Rattle.span_registry.specs.Context.{filters_lent, lane_lent, subscriber_lent, view_lent}
use Rattle.span_fmt.specs.Form.{plainly_lent}
use Rattle.span_format.proofs.Noted.{event_given, event_missed, span_given, span_missed}
use Rattle.span_format.proofs.Plain.{line_plainly}
use Rattle.span_format.specs.Format.{format_gives, format_misses, kept_by, looks_of}
use Rattle.span_format.specs.Line.{event_line}
use Rattle.span_format.proofs.format.FormatForm.line.Goals as goal

pub returns-in-NewSpan-clause-given : goal.returns-in-NewSpan-clause-given
returns-in-NewSpan-clause-given g c =
    let v = plainly_lent g.S.LookupSpan.registry c.args.ctx.now in
    let x = c.args.self.now in
    let y = c.note.new.self in
    subst (λ (n : NoticeInCode). IfOk c.note.result (λ line. format_gives x (notice_of n) v (string_bytes line) y))
    (sym c.in-NewSpan.is) (span_given c.note.result x y v c.in-NewSpan.attrs.now c.in-NewSpan.id c.values.result.now c.values.ensures
    c.note.ensures.line c.note.ensures.noted c.note.ensures.looks)

pub returns-in-NewSpan-clause-missed : goal.returns-in-NewSpan-clause-missed
returns-in-NewSpan-clause-missed g c =
    let v = plainly_lent g.S.LookupSpan.registry c.args.ctx.now in
    let x = c.args.self.now in
    let y = c.note.new.self in
    subst (λ (n : NoticeInCode). OnErr c.note.result (format_misses x (notice_of n) v y)) (sym c.in-NewSpan.is)
    (span_missed c.note.result x y v c.in-NewSpan.attrs.now c.in-NewSpan.id c.values.result.now c.values.ensures
    c.note.ensures.unchanged c.note.ensures.refused c.note.ensures.looks)

pub returns-in-Event-clause-given : goal.returns-in-Event-clause-given
returns-in-Event-clause-given g c =
    let ctx = c.args.ctx.now in
    let registry = g.S.LookupSpan.registry in
    let s = (registry (subscriber_lent ctx)).store in
    let x = c.args.self.now in
    let e = c.in-Event.event.now in
    let v = plainly_lent registry ctx in
    let law = c.extensions_change_no_look_up.ensures s (lane_lent ctx).0 (filters_lent ctx) in
    subst (λ (n : NoticeInCode). IfOk c.event_line.result (λ line. format_gives x (notice_of n) v (string_bytes line) x))
    (sym c.in-Event.is) (event_given c.event_line.result x x v e (event_line (looks_of x) e (view_lent registry ctx) (kept_by x))
    c.event_line.ensures.text (line_plainly s (lane_lent ctx).0 (filters_lent ctx) law (looks_of x) e (kept_by x) (looks_of x).layout))

pub returns-in-Event-clause-missed : goal.returns-in-Event-clause-missed
returns-in-Event-clause-missed g c =
    let ctx = c.args.ctx.now in
    let registry = g.S.LookupSpan.registry in
    let s = (registry (subscriber_lent ctx)).store in
    let x = c.args.self.now in
    let e = c.in-Event.event.now in
    let v = plainly_lent registry ctx in
    let law = c.extensions_change_no_look_up.ensures s (lane_lent ctx).0 (filters_lent ctx) in
    subst (λ (n : NoticeInCode). OnErr c.event_line.result (format_misses x (notice_of n) v x)) (sym c.in-Event.is)
    (event_missed c.event_line.result x x v e (event_line (looks_of x) e (view_lent registry ctx) (kept_by x))
    c.event_line.ensures.refused (line_plainly s (lane_lent ctx).0 (filters_lent ctx) law (looks_of x) e (kept_by x) (looks_of x).layout))
