use Rattle.std.proofs.Common.{◌≡◌, ◌∙◌, ap, string_bytes}
use Rattle.span_core.specs.Metadata.{level_of}
use Rattle.span_core.specs.declared.span.Lane.{Lane}
use Rattle.span_registry.specs.Context.{view_lent}
use Rattle.span_fmt.proofs.Around.{around_found, line_written}
use Rattle.span_fmt.proofs.Filled.{at_an_error, line_filled}
use Rattle.span_fmt.specs.Known.{known_in}
use Rattle.span_fmt.specs.Lane.{names_in}
use Rattle.span_fmt.specs.Lines.{around_text}
use Rattle.span_fmt.proofs.lines.line_due.Goals as goal

pub returns-clause-text : goal.returns-clause-text
returns-clause-text g c =
    let registry = g.S.LookupSpan.registry in
    let ctx = c.args.ctx.now in
    let e = c.args.event.now in
    let known = known_in c.args.known.now in
    let v = view_lent registry ctx in
    let lane = c.lane.result.0 in
    let level = c.level.result in
    let around : string_bytes c.in_ok-around.around ≡ around_text e v known =
    c.in_ok-around.ensures ∙ around_found registry ctx c.ctx-look.result e c.event_scope.result known c.ctx-look.ensures c.event_scope.ensures in
    line_written (names_in c.args.names.now) e v known lane level c.metadata-metadata.result
    c.values.result.now (string_bytes c.in_ok-line.line) (string_bytes c.write_spaced.new.text) (string_bytes c.write_rest.new.text) c.as_str.result.now
    c.in_ok-line.ensures c.in_ok-write_spaced.ensures c.in_ok-write_rest.ensures (ap (λ (l : Lane). l.0) c.lane.ensures)
    (c.level.ensures ∙ ap level_of c.metadata-metadata.ensures) (c.as_str.ensures.value ∙ around) c.metadata-metadata.ensures c.values.ensures

pub returns-in_err-around-clause-refused : goal.returns-in_err-around-clause-refused
returns-in_err-around-clause-refused g c =
    at_an_error c.from_residual.result
    (line_filled (names_in c.args.names.now) c.args.event.now (view_lent g.S.LookupSpan.registry c.args.ctx.now) (known_in c.args.known.now))

pub returns-in_err-line-clause-refused : goal.returns-in_err-line-clause-refused
returns-in_err-line-clause-refused g c =
    at_an_error c.from_residual-in_err-line.result
    (line_filled (names_in c.args.names.now) c.args.event.now (view_lent g.S.LookupSpan.registry c.args.ctx.now) (known_in c.args.known.now))

pub returns-in_err-write_spaced-clause-refused : goal.returns-in_err-write_spaced-clause-refused
returns-in_err-write_spaced-clause-refused g c =
    at_an_error c.from_residual-in_err-write_spaced.result
    (line_filled (names_in c.args.names.now) c.args.event.now (view_lent g.S.LookupSpan.registry c.args.ctx.now) (known_in c.args.known.now))

pub returns-in_err-write_rest-clause-refused : goal.returns-in_err-write_rest-clause-refused
returns-in_err-write_rest-clause-refused g c =
    at_an_error c.from_residual-in_err-write_rest.result
    (line_filled (names_in c.args.names.now) c.args.event.now (view_lent g.S.LookupSpan.registry c.args.ctx.now) (known_in c.args.known.now))
