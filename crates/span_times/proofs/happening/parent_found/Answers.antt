use Rattle.std.proofs.Common.{◌≡◌, ◌∙◌, None, Some, ap, rules, sym}
use Rattle.span_core.specs.Span.{number_of}
use Rattle.span_times.proofs.Found.{id_in, parent_of_found}
use Rattle.span_times.proofs.happening.parent_found.Goals as goal

pub returns-in_err-parent : goal.returns-in_err-parent
returns-in_err-parent g c =
    let some : c.span.result ≡ Some c.in_ok-span.span = search rules in
    let none : c.parent.result ≡ None = search rules in
    let nothing : c.from_residual-in_err-parent.result ≡ None = search rules in
    nothing ∙ ap id_in (sym none)
    ∙ parent_of_found g.S.LookupSpan.registry
    c.args.ctx.now c.ctx.result c.ctx.ensures (number_of c.args.id) c.span.result c.in_ok-span.span c.parent.result some c.span.ensures c.parent.ensures

pub returns : goal.returns
returns g c =
    let some : c.span.result ≡ Some c.in_ok-span.span = search rules in
    let above : c.parent.result ≡ Some c.in_ok-parent.parent = search rules in
    ap Some c.id.ensures ∙ ap id_in (sym above)
    ∙ parent_of_found g.S.LookupSpan.registry
    c.args.ctx.now c.ctx.result c.ctx.ensures (number_of c.args.id) c.span.result c.in_ok-span.span c.parent.result some c.span.ensures c.parent.ensures
