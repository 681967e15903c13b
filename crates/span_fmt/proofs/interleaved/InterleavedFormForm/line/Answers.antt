use Rattle.std.proofs.Common.{◌≡◌, ◌≢◌, ◌∙◌, Some, [], ap, refl, string_bytes}
use Rattle.span_core.specs.declared.span.Lane.{Lane}
use Rattle.span_registry.specs.Context.{filters_lent, lane_lent, subscriber_lent}
use Rattle.span_registry.specs.Notice.{notice_of}
use Rattle.span_fmt.proofs.Filled.{without_error}
use Rattle.span_fmt.proofs.Interleaving.{empty, filled, interleaved_plainly, next_none, next_some}
use Rattle.span_fmt.proofs.Plain.{notice_plainly}
use Rattle.span_fmt.specs.Interleaved.{last_lane, lanes_named}
use Rattle.span_fmt.proofs.interleaved.InterleavedFormForm.line.Goals as goal

pub returns-in_err-text-clause-missed : goal.returns-in_err-text-clause-missed
returns-in_err-text-clause-missed g c =
    let ctx = c.args.ctx.now in
    let s = (g.S.LookupSpan.registry (subscriber_lent ctx)).store in
    let law = c.extensions_change_no_look_up.ensures s (lane_lent ctx).0 (filters_lent ctx) in
    let names = lanes_named c.args.self.now in
    let plainly = notice_plainly names s (lane_lent ctx).0 (filters_lent ctx) law (notice_of c.args.notice) in
    without_error c.from_residual.result ((λ none. c.in_err-text.ensures.refused (plainly ∙ none)), refl)

pub returns-then-is_empty-clause-given : goal.returns-then-is_empty-clause-given
returns-then-is_empty-clause-given g c =
    let ctx = c.args.ctx.now in
    let s = (g.S.LookupSpan.registry (subscriber_lent ctx)).store in
    let law = c.extensions_change_no_look_up.ensures s (lane_lent ctx).0 (filters_lent ctx) in
    let x = c.args.self.now in
    let text = string_bytes c.in_ok-text.text in
    let none : text ≡ [] = empty text c.as_str.result.now c.is_empty.result c.as_str.ensures.value c.is_empty.ensures c.if-is_empty.true in
    record {
      text = c.in_ok-text.ensures.text
          ∙ interleaved_plainly (lanes_named x) s (lane_lent ctx).0 (filters_lent ctx) law (last_lane x) (notice_of c.args.notice);
      last = next_none (last_lane x) text (lane_lent ctx).0 none;
      names = refl;
    }

pub returns-clause-given : goal.returns-clause-given
returns-clause-given g c =
    let ctx = c.args.ctx.now in
    let s = (g.S.LookupSpan.registry (subscriber_lent ctx)).store in
    let law = c.extensions_change_no_look_up.ensures s (lane_lent ctx).0 (filters_lent ctx) in
    let x = c.args.self.now in
    let text = string_bytes c.in_ok-text.text in
    let some : text ≢ [] = filled text c.as_str.result.now c.is_empty.result c.as_str.ensures.value c.is_empty.ensures c.if-is_empty.false in
    record {
      text = c.in_ok-text.ensures.text
          ∙ interleaved_plainly (lanes_named x) s (lane_lent ctx).0 (filters_lent ctx) law (last_lane x) (notice_of c.args.notice);
      last = ap (λ (l : Lane). Some l.0) c.lane.ensures ∙ next_some (last_lane x) text (lane_lent ctx).0 some;
      names = refl;
    }
