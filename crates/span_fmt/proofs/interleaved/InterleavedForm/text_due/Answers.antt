use Rattle.std.proofs.Common.{◌≡◌, ◌≢◌, ◌∙◌, ◌++◌, true, [], ap, string_bytes, sym}
use Rattle.span_core.specs.declared.span.Lane.{Lane}
use Rattle.span_registry.specs.Context.{view_lent}
use Rattle.span_registry.specs.Notice.{notice_of}
use Rattle.span_fmt.proofs.Interleaving.{all_due, filled, lines_of_spans}
use Rattle.span_fmt.specs.Interleaved.{context_text, is_other, last_lane, lanes_named, spans_about}
use Rattle.span_fmt.specs.Tree.{given}
use Rattle.span_fmt.proofs.interleaved.InterleavedForm.text_due.Goals as goal

pub returns-clause-text : goal.returns-clause-text
returns-clause-text g c =
    let registry = g.S.LookupSpan.registry in
    let ctx = c.args.ctx.now in
    let v = view_lent registry ctx in
    let e = notice_of c.args.notice in
    let names = lanes_named c.args.self.now in
    let last = last_lane c.args.self.now in
    let line = string_bytes c.in_ok-line.line in
    let context = string_bytes c.in_ok-text.text in
    let some : line ≢ [] = filled line c.as_str.result.now c.is_empty.result c.as_str.ensures.value c.is_empty.ensures c.if-is_empty.false in
    let other : is_other last v.lane ≡ true =
    ap (λ (l : Lane). is_other last l.0) (sym c.lane.ensures) ∙ sym c.changes_to.ensures ∙ c.if-not-changes_to.false in
    let round : context ≡ context_text names e v =
    c.in_ok-text.ensures ∙ lines_of_spans names v (given registry c.scope_about.result) (spans_about e v) c.scope_about.ensures in
    all_due names last e v context line (string_bytes c.push_str.new.self) c.in_ok-line.ensures.text some other round
    (c.in_ok-push_str.ensures.bytes ∙ ap (λ t. context ++ t) c.as_str-2.ensures.value)
