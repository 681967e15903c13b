use Rattle.std.proofs.Common.{◌≡◌, ◌∙◌, List, [], ◌++◌, ap, arith, refl, subst, sym, take}
use Rattle.std.proofs.lemmas.List.{append-nil, drop_all}
use Rattle.std.specs.Option.{option_map, option_to_list}
use Rattle.serde_json.specs.Data.{Data}
use Rattle.serde_json.specs.View.{view}
use Rattle.span_otlp.proofs.Batches.{at_first}
use Rattle.span_otlp.proofs.Requests.{due_depth, span_more}
use Rattle.span_otlp.specs.Otlp.{spans_from}
use Rattle.span_export.specs.Site.{named_by}
use Rattle.span_otlp.specs.private.Rooted.{trace_by}
use Rattle.span_otlp.specs.private.Sent.{AreSent}
use Rattle.span_otlp.proofs.otlp.batches.Goals as goal

pub loop-place-init : goal.loop-place-init
loop-place-init g c = ([], at_first c.args.plan c.new-batches.result c.new-batches.ensures.lines c.new-batches.ensures.waiting, refl)

pub loop-place-preserved : goal.loop-place-preserved
loop-place-preserved g c =
    let named = named_by c.args.spans.now in
    let trace = c.args.plan.trace.now in
    let traces = trace_by g.I.TraceIds.trace_of c.args.traces.now in
    let ps = c.args.points.now in
    let inv = c.loop-place.invariant in
    let o = option_map view c.in_ok-span.span in (
      inv.0 ++ option_to_list o,
      c.in_ok-add.ensures inv.0 (due_depth trace traces c.args.table named ps c.loop-place.place _ o c.in_ok-span.ensures) inv.1,
      span_more trace
          traces c.args.table named ps c.loop-place.place _ inv.0 o (spans_from trace traces c.args.table named [] ps) (omega arith) c.in_ok-span.ensures inv.2,
    )

pub returns : goal.returns
returns g c =
    let named = named_by c.args.spans.now in
    let trace = c.args.plan.trace.now in
    let traces = trace_by g.I.TraceIds.trace_of c.args.traces.now in
    let ps = c.args.points.now in
    let i = c.loop-place.place in
    let inv = c.loop-place.invariant in
    let all : inv.0 ≡ spans_from trace traces c.args.table named [] ps =
    sym (append-nil inv.0) ∙ ap (λ rest. inv.0 ++ spans_from trace traces c.args.table named (take i ps) rest) (sym (drop_all i ps (omega arith))) ∙ inv.2 in
    subst (λ (ds : List Data). AreSent c.args.plan ds c.loop-place.batches) all inv.1
