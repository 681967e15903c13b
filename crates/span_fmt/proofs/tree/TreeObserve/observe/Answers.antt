use Rattle.std.proofs.Common.{ℕ, List, refl, subst}
use Rattle.span_registry.specs.Notice.{notice_of}
use Rattle.span_registry.specs.Context.{filters_lent, lane_lent, subscriber_lent, view_lent}
use Rattle.span_fmt.proofs.Plain.{notice_plainly}
use Rattle.span_fmt.specs.Page.{Writes}
use Rattle.span_fmt.specs.Tree.{names_of, notice_text}
use Rattle.span_fmt.proofs.tree.TreeObserve.observe.Goals as goal

pub returns-clause-hook : goal.returns-clause-hook
returns-clause-hook g c =
    let ctx = c.args.ctx.now in
    let s = (g.S.LookupSpan.registry (subscriber_lent ctx)).store in
    let notice = notice_of c.args.notice in
    let law = c.extensions_change_no_look_up.ensures s (lane_lent ctx).0 (filters_lent ctx) in
    let names = names_of c.args.self.now in
    let written =
    c.write.ensures (notice_text names notice (view_lent g.S.LookupSpan.registry ctx)) c.text_due-due.ensures.text c.text_due-due.ensures.refused in
    let plainly = notice_plainly names s (lane_lent ctx).0 (filters_lent ctx) law notice in
    (subst (λ (t : List ℕ). Writes t c.args.self.now.page c.write.new.self) plainly written, refl, refl)
