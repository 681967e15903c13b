use Rattle.std.proofs.Common.{◌≡◌, map, take}
use Rattle.serde_json.specs.View.{view}
use Rattle.span_otlp.specs.Otlp.{events_of}
use Rattle.span_otlp.proofs.otlp.events.Given as goal

-- the events so far
abbrev pub invariant-loop-point : goal.invariant-loop-point
invariant-loop-point l = map view l.events.items ≡ events_of l.trace l.table l.id (take l.point-index l.since)
