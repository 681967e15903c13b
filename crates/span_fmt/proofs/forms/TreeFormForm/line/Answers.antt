use Rattle.std.proofs.Common.{refl}
use Rattle.span_registry.specs.Notice.{notice_of}
use Rattle.span_registry.specs.Context.{filters_lent, lane_lent, subscriber_lent, view_lent}
use Rattle.span_fmt.proofs.Noted.{given_plainly, missed_plainly}
use Rattle.span_fmt.proofs.Plain.{notice_plainly}
use Rattle.span_fmt.specs.Form.{plainly_lent}
use Rattle.span_fmt.specs.Forms.{names_by_tree}
use Rattle.span_fmt.specs.Tree.{notice_text}
use Rattle.span_fmt.proofs.forms.TreeFormForm.line.Goals as goal

pub returns-clause-given : goal.returns-clause-given
returns-clause-given g c =
    let ctx = c.args.ctx.now in
    let registry = g.S.LookupSpan.registry in
    let e = notice_of c.args.notice in
    let names = names_by_tree c.args.self.now in
    let s = (registry (subscriber_lent ctx)).store in
    let law = c.extensions_change_no_look_up.ensures s (lane_lent ctx).0 (filters_lent ctx) in
    given_plainly c.text_due.result (notice_text names e (view_lent registry ctx))
    (notice_text names e (plainly_lent registry ctx)) _ c.text_due.ensures.text (notice_plainly names s (lane_lent ctx).0 (filters_lent ctx) law e) refl

pub returns-clause-missed : goal.returns-clause-missed
returns-clause-missed g c =
    let ctx = c.args.ctx.now in
    let registry = g.S.LookupSpan.registry in
    let e = notice_of c.args.notice in
    let names = names_by_tree c.args.self.now in
    let s = (registry (subscriber_lent ctx)).store in
    let law = c.extensions_change_no_look_up.ensures s (lane_lent ctx).0 (filters_lent ctx) in
    missed_plainly c.text_due.result (notice_text names e (view_lent registry ctx))
    (notice_text names e (plainly_lent registry ctx)) _ c.text_due.ensures.refused (notice_plainly names s (lane_lent ctx).0 (filters_lent ctx) law e) refl
