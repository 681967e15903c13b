use Rattle.std.proofs.Common.{ℕ, List, refl, subst, sym}
use Rattle.span_registry.specs.Notice.{notice_of}
use Rattle.span_registry.specs.declared.notice.Notice.{Notice as NoticeInCode}
use Rattle.span_registry.specs.Context.{filters_lent, lane_lent, subscriber_lent}
use Rattle.span_registry.specs.View.{plain_view, view_of}
use Rattle.span_fmt.proofs.Around.{event_plainly}
use Rattle.span_fmt.proofs.Noticed.{event_noticed, new_noticed}
use Rattle.span_fmt.specs.Lines.{TakesNotice, event_line, known_of, names_of}
use Rattle.span_fmt.specs.Page.{Writes}
use Rattle.span_fmt.proofs.lines.LinesObserve.observe.Goals as goal

pub returns-in-NewSpan-clause-hook : goal.returns-in-NewSpan-clause-hook
returns-in-NewSpan-clause-hook g c =
    let ctx = c.args.ctx.now in
    let v = plain_view (g.S.LookupSpan.registry (subscriber_lent ctx)).store (lane_lent ctx).0 (filters_lent ctx) in
    let x = c.args.self.now in
    let y = c.note.new.self in
    let noted = c.note.ensures in
    let noticed =
    new_noticed c.in-NewSpan.attrs.now c.in-NewSpan.id v x y c.values.result.now c.values.ensures noted.text noted.before noted.known noted.failed noted.free
    noted.names in
    (subst (λ (n : NoticeInCode). TakesNotice (notice_of n) v x y) (sym c.in-NewSpan.is) noticed, refl)

pub returns-in-Event-clause-hook : goal.returns-in-Event-clause-hook
returns-in-Event-clause-hook g c =
    let ctx = c.args.ctx.now in
    let s = (g.S.LookupSpan.registry (subscriber_lent ctx)).store in
    let lane = (lane_lent ctx).0 in
    let mask = filters_lent ctx in
    let x = c.args.self.now in
    let page = c.write.new.self in
    let e = c.in-Event.event.now in
    let law = c.extensions_change_no_look_up.ensures s lane mask in
    let written = c.write.ensures (event_line (names_of x) e (view_of s lane mask) (known_of x)) c.line_due-line.ensures.text c.line_due-line.ensures.refused in
    let plainly = subst (λ (t : List ℕ). Writes t x.page page) (event_plainly s lane mask law (names_of x) e (known_of x)) written in
    let noticed = event_noticed e (plain_view s lane mask) x page plainly in
    (subst (λ (n : NoticeInCode). TakesNotice (notice_of n) (plain_view s lane mask) x (record x { page = page })) (sym c.in-Event.is) noticed, refl)
