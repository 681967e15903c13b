use Rattle.std.proofs.Common.{◌≡◌, ◌∙◌, ℕ, List, ◌++◌, ap, string_bytes}
use Rattle.std.specs.Borrow.{Bor}
use Rattle.std.specs.Prelude.{codes}
use Rattle.span_core.specs.Event.{event_metadata, event_parent}
use Rattle.span_core.specs.declared.field.FieldValue.{FieldValue}
use Rattle.span_core.specs.declared.metadata.Metadata.{Metadata}
use Rattle.span_core.specs.declared.span.Lane.{Lane}
use Rattle.span_registry.specs.Context.{view_lent}
use Rattle.span_registry.specs.View.{event_shown}
use Rattle.span_fmt.proofs.Filled.{at_an_error, event_line_filled}
use Rattle.span_fmt.proofs.Scopes.{head_round}
use Rattle.span_fmt.specs.Lane.{names_in}
use Rattle.span_fmt.specs.Text.{head_text, tail_text}
use Rattle.span_fmt.specs.Tree.{spans_round}
use Rattle.span_fmt.proofs.tree.event_line.Goals as goal

pub returns-clause-text : goal.returns-clause-text
returns-clause-text g c =
    let registry = g.S.LookupSpan.registry in
    let ctx = c.args.ctx.now in
    let e = c.args.event.now in
    let v = view_lent registry ctx in
    let lane = c.lane.result.0 in
    let names = names_in c.args.names.now in
    let round =
    head_round registry ctx c.ctx-look.result (event_shown (event_parent e)) c.event_scope.result names lane c.ctx-look.ensures c.event_scope.ensures in
    let began : string_bytes c.in_ok-line.line ≡ head_text names v.lane (spans_round e v) =
    c.in_ok-line.ensures ∙ round ∙ ap (λ (l : Lane). head_text names l.0 (spans_round e v)) c.lane.ensures in
    c.in_ok-write_tail.ensures
    ∙ ap (λ (t : List ℕ). t ++ tail_text (codes "-") c.metadata.result c.values.result.now) began
    ∙ ap (λ (m : Metadata). head_text names v.lane (spans_round e v) ++ tail_text (codes "-") m c.values.result.now) c.metadata.ensures
    ∙ ap (λ (values : List (Bor (List ℕ) × FieldValue)). head_text names v.lane (spans_round e v) ++ tail_text (codes "-") (event_metadata e) values)
    c.values.ensures

pub returns-in_err-write_tail-clause-refused : goal.returns-in_err-write_tail-clause-refused
returns-in_err-write_tail-clause-refused g c =
    at_an_error c.from_residual-in_err-write_tail.result
    (event_line_filled (names_in c.args.names.now) c.args.event.now (view_lent g.S.LookupSpan.registry c.args.ctx.now))

pub returns-in_err-line-clause-refused : goal.returns-in_err-line-clause-refused
returns-in_err-line-clause-refused g c =
    at_an_error c.from_residual.result (event_line_filled (names_in c.args.names.now) c.args.event.now (view_lent g.S.LookupSpan.registry c.args.ctx.now))
