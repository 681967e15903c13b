use Rattle.std.proofs.Common.{arith, refl, subst, sym}
use Rattle.std.specs.Prelude.{IfOk, OnErr, string_bytes}
use Rattle.serde_json.specs.Data.{no_members}
use Rattle.span_core.specs.Span.{number_of}
use Rattle.span_registry.specs.Context.{filters_lent, lane_lent, subscriber_lent, view_lent}
use Rattle.span_registry.specs.Notice.{notice_of}
use Rattle.span_registry.specs.declared.notice.Notice.{Notice as NoticeInCode}
use Rattle.span_stream.proofs.Given.{event_given, span_given, span_missed}
use Rattle.span_stream.proofs.Lined.{object_plainly, with_flat}
use Rattle.span_fmt.specs.Form.{plainly_lent}
use Rattle.span_stream.specs.Json.{json_gives, json_misses, known_of, names_of}
use Rattle.span_stream.specs.Members.{AreFlat}
use Rattle.span_stream.proofs.json_form.JsonFormForm.line.Goals as goal

pub invariant_of-self : goal.invariant_of-self
invariant_of-self g c =
    let x = c.args.self.now in
    record { flat = subst AreFlat (sym c.forget.ensures) (with_flat (number_of c.in-Close.id) no_members (known_of x) x.flat (omega arith)) }

pub returns-in-NewSpan-clause-given : goal.returns-in-NewSpan-clause-given
returns-in-NewSpan-clause-given g c =
    let gives = json_gives g.C.Now.latest g.C.Now.gives in
    let v = plainly_lent g.S.LookupSpan.registry c.args.ctx.now in
    let x = c.args.self.now in
    let y = c.note.new.self in
    let noted = c.note.ensures in
    subst (λ (n : NoticeInCode). IfOk c.note.result (λ line. gives x (notice_of n) v (string_bytes line) y)) (sym c.in-NewSpan.is)
    (span_given g.C.Now.latest g.C.Now.gives
    x y v c.note.result c.in-NewSpan.attrs.now c.in-NewSpan.id c.values.result.now c.values.ensures noted.line noted.noted noted.clock noted.style noted.names)

pub returns-in-NewSpan-clause-missed : goal.returns-in-NewSpan-clause-missed
returns-in-NewSpan-clause-missed g c =
    let misses = json_misses g.C.Now.latest g.C.Now.gives in
    let v = plainly_lent g.S.LookupSpan.registry c.args.ctx.now in
    let x = c.args.self.now in
    let y = c.note.new.self in
    let noted = c.note.ensures in
    subst (λ (n : NoticeInCode). OnErr c.note.result (misses x (notice_of n) v y)) (sym c.in-NewSpan.is)
    (span_missed g.C.Now.latest g.C.Now.gives
    x y v
    c.note.result c.in-NewSpan.attrs.now c.in-NewSpan.id c.values.result.now c.values.ensures noted.refused noted.unchanged noted.clock noted.style noted.names)

pub returns-in-Event-clause-given : goal.returns-in-Event-clause-given
returns-in-Event-clause-given g c =
    let registry = g.S.LookupSpan.registry in
    let gives = json_gives g.C.Now.latest g.C.Now.gives in
    let ctx = c.args.ctx.now in
    let s = (registry (subscriber_lent ctx)).store in
    let v = plainly_lent registry ctx in
    let x = c.args.self.now in
    let y = record x { clock = c.now-time.new.self; flat = _ } in
    let e = c.in-Event.event.now in
    let law = c.extensions_change_no_look_up.ensures s (lane_lent ctx).0 (filters_lent ctx) in
    subst (λ (n : NoticeInCode). IfOk c.json_line.result (λ line. gives x (notice_of n) v (string_bytes line) y)) (sym c.in-Event.is)
    (event_given g.C.Now.latest g.C.Now.gives x y v c.json_line.result e (view_lent registry ctx) c.now-time.result
    (λ stamp. object_plainly s (lane_lent ctx).0 (filters_lent ctx) law stamp e (known_of x) (names_of x)) c.now-time.ensures
    refl refl refl c.json_line.ensures)
