use Rattle.std.proofs.Common.{◌≡◌, ◌∙◌, true, refl, rules, string_bytes}
use Rattle.span_fmt.specs.Form.{plainly_lent}
use Rattle.span_registry.specs.Context.{filters_lent, lane_lent, subscriber_lent}
use Rattle.span_registry.specs.Notice.{notice_of}
use Rattle.span_stream.proofs.Coloured.{level_plainly, painted_given}
use Rattle.span_stream.specs.Painted.{is_coloured}
use Rattle.span_stream.proofs.painted.PaintedForm.line.Goals as goal

pub returns-in-Ok-clause-given : goal.returns-in-Ok-clause-given
returns-in-Ok-clause-given g c =
    let registry = g.S.LookupSpan.registry in
    let ctx = c.args.ctx.now in
    let e = notice_of c.args.notice in
    let s = (registry (subscriber_lent ctx)).store in
    let law = c.extensions_change_no_look_up.ensures s (lane_lent ctx).0 (filters_lent ctx) in
    let asked : is_coloured c.args.self.now ≡ true = search rules in
    let level = c.level_shown.ensures ∙ level_plainly s (lane_lent ctx).0 (filters_lent ctx) law e in
    painted_given g.F.Form.gives c.args.self.now _ e (plainly_lent registry ctx) (string_bytes c.in-Ok.line) c.as_str.result.now c.level_shown.result
    c.paint.result asked refl c.in-Ok.ensures.given level c.as_str.ensures.value c.paint.ensures
