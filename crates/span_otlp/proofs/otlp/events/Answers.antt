use Rattle.std.proofs.Common.{◌≡◌, ◌++◌, arith, rules}
use Rattle.std.specs.Option.{option_to_list}
use Rattle.serde_json.specs.View.{view}
use Rattle.span_otlp.proofs.Kept.{keeps_one_more}
use Rattle.span_otlp.proofs.otlp.events.Goals as goal
use Rattle.span_otlp.proofs.otlp.events.Goals.{in-Some+in_ok-push, in_default}
use Rattle.span_otlp.specs.Otlp.{event_of}

pub loop-point-preserved : goal.loop-point-preserved
loop-point-preserved c =
    let grew : c.match-branch-2.events.items ≡ c.loop-point.events.items ++ option_to_list c.in_ok-event.field-0 =
    elim c.match-branch-2.branch [ in-Some+in_ok-push w ↦ search rules | in_default w ↦ search rules ] in
    keeps_one_more view (λ p. event_of c.args.trace.now c.args.table c.args.id p p.what) c.args.since.now c.loop-point.point-index
    _ c.loop-point.events.items c.match-branch-2.events.items c.in_ok-event.field-0 (omega arith) c.in_ok-event.ensures grew c.loop-point.invariant
