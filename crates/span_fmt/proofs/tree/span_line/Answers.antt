use Rattle.std.proofs.Common.{◌≡◌, ◌∙◌, ℕ, List, [], ◌++◌, Option, ap, string_bytes, sym}
use Rattle.std.specs.Option.{option_map_or}
use Rattle.span_core.specs.Span.{number_of}
use Rattle.span_core.specs.declared.metadata.Metadata.{Metadata}
use Rattle.span_core.specs.declared.span.Lane.{Lane}
use Rattle.span_registry.specs.Context.{view_lent}
use Rattle.span_registry.specs.View.{shown}
use Rattle.span_fmt.proofs.Filled.{at_an_error, span_line_filled}
use Rattle.span_fmt.proofs.Scopes.{head_above}
use Rattle.span_fmt.specs.Lane.{names_in}
use Rattle.span_fmt.specs.Text.{head_text, tail_text}
use Rattle.span_fmt.specs.Tree.{spans_above}
use Rattle.span_fmt.proofs.tree.span_line.Goals as goal

pub returns-clause-text : goal.returns-clause-text
returns-clause-text g c =
    let registry = g.S.LookupSpan.registry in
    let ctx = c.args.ctx.now in
    let x = number_of c.args.id in
    let v = view_lent registry ctx in
    let lane = c.lane.result.0 in
    let names = names_in c.args.names.now in
    let above = head_above registry ctx c.ctx-look.result (shown x) c.span_scope.result names lane c.ctx-look.ensures c.span_scope.ensures in
    let began : string_bytes c.in_ok-line.line ≡ head_text names v.lane (spans_above x v) =
    c.in_ok-line.ensures ∙ ap (head_text names lane) c.above.ensures ∙ above ∙ ap (λ (l : Lane). head_text names l.0 (spans_above x v)) c.lane.ensures in
    c.in_ok-write_tail.ensures
    ∙ ap (λ (t : List ℕ). t ++ tail_text c.args.mark.now c.in-Some.metadata c.args.values.now) began
    ∙ ap (λ (o : Option Metadata). option_map_or (λ m. head_text names v.lane (spans_above x v) ++ tail_text c.args.mark.now m c.args.values.now) o [])
    c.in-Some.ensures

pub returns-in_err-write_tail-clause-refused : goal.returns-in_err-write_tail-clause-refused
returns-in_err-write_tail-clause-refused g c =
    at_an_error c.from_residual-in_err-write_tail.result (span_line_filled (names_in c.args.names.now) c.args.mark.now
    (number_of c.args.id) c.args.values.now (view_lent g.S.LookupSpan.registry c.args.ctx.now) c.in-Some.metadata (sym c.in-Some.ensures))
