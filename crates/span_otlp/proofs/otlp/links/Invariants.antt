use Rattle.std.proofs.Common.{◌≡◌, map, take}
use Rattle.serde_json.specs.View.{view}
use Rattle.span_otlp.specs.Otlp.{links_of}
use Rattle.span_otlp.specs.private.Rooted.{trace_by}
use Rattle.span_otlp.proofs.otlp.links.Given as goal

-- the links so far
abbrev pub invariant-loop-point : goal.invariant-loop-point
invariant-loop-point g l = map view l.links.items ≡ links_of (trace_by g.I.TraceIds.trace_of l.traces) l.id (take l.point-index l.since)
