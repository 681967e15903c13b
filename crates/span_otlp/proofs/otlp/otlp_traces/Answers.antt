use Rattle.std.proofs.Common.{◌≡◌, ◌∙◌, ℕ, List, [], ap, subst}
use Rattle.serde_json.specs.Data.{Data}
use Rattle.span_export.specs.Site.{Named, named_by, named_in}
use Rattle.span_otlp.proofs.Batches.{on_ok}
use Rattle.span_otlp.specs.Otlp.{spans_from, spans_in}
use Rattle.span_otlp.specs.Root.{known_of, root_in}
use Rattle.span_otlp.specs.declared.batch.Plan.{Plan}
use Rattle.span_otlp.specs.declared.batch.Signal.TheVariants.{Spans}
use Rattle.span_otlp.specs.private.Rooted.{root_by}
use Rattle.span_otlp.specs.private.Sent.{AreSent}
use Rattle.span_otlp.proofs.otlp.otlp_traces.Goals as goal

pub returns : goal.returns
returns g c =
    let plan : Plan = record { trace = c.args.trace; signal = Spans; most = c.args.most } in
    let trace = c.args.trace.now in
    let ps = c.args.points.now in
    let trace_of = g.I.TraceIds.trace_of c.args.ids.now in
    let named = named_by c.in_ok-spans.spans in
    let known = known_of c.args.table ps in
    let rooted : root_by c.in_ok-roots.roots ≡ root_in known = λ j x. c.in_ok-roots.ensures x j in
    let same : named ≡ named_in c.args.table ps = λ j x. c.in_ok-spans.ensures x j in
    let all : spans_from trace (λ x. trace_of (root_by c.in_ok-roots.roots x)) c.args.table named [] ps ≡ spans_in trace trace_of c.args.table ps =
    ap (λ (root : ℕ → ℕ). spans_from trace (λ x. trace_of (root x)) c.args.table named [] ps) rooted
    ∙ ap (λ (n : ℕ → Named). spans_from trace (λ x. trace_of (root_in known x)) c.args.table n [] ps) same in
    let sent : AreSent plan (spans_in trace trace_of c.args.table ps) c.in_ok-batches.batches =
    subst (λ (ds : List Data). AreSent plan ds c.in_ok-batches.batches) all c.in_ok-batches.ensures in
    record {
      mean = on_ok c.finish.result c.finish.ensures (λ lines h. (h (spans_in trace trace_of c.args.table ps) sent).batches);
      compact = on_ok c.finish.result c.finish.ensures (λ lines h. (h (spans_in trace trace_of c.args.table ps) sent).compact);
    }
