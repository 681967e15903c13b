use Rattle.std.proofs.Common.{◌≡◌, ◌++◌, arith, rules}
use Rattle.std.specs.Option.{option_to_list}
use Rattle.serde_json.specs.View.{view}
use Rattle.span_otlp.proofs.Kept.{keeps_one_more}
use Rattle.span_otlp.proofs.otlp.links.Goals as goal
use Rattle.span_otlp.proofs.otlp.links.Goals.{in-Some+in_ok-push, in_default}
use Rattle.span_otlp.specs.Otlp.{link_of}
use Rattle.span_otlp.specs.private.Rooted.{trace_by}

pub loop-point-preserved : goal.loop-point-preserved
loop-point-preserved g c =
    let grew : c.match-branch-2.links.items ≡ c.loop-point.links.items ++ option_to_list c.in_ok-link.field-0 =
    elim c.match-branch-2.branch [ in-Some+in_ok-push w ↦ search rules | in_default w ↦ search rules ] in
    keeps_one_more view (λ p. link_of (trace_by g.I.TraceIds.trace_of c.args.traces.now) c.args.id p.what) c.args.since.now c.loop-point.point-index
    _ c.loop-point.links.items c.match-branch-2.links.items c.in_ok-link.field-0 (omega arith) c.in_ok-link.ensures grew c.loop-point.invariant
