use Rattle.std.proofs.Common.{◌≡◌, ◌++◌, [], List, drop, take}
use Rattle.serde_json.specs.Data.{Data}
use Rattle.span_otlp.specs.Otlp.{spans_from}
use Rattle.span_export.specs.Site.{named_by}
use Rattle.span_otlp.specs.private.Rooted.{trace_by}
use Rattle.span_otlp.specs.private.Sent.{AreSent}
use Rattle.span_otlp.proofs.otlp.batches.Given as goal

-- the spans so far and those that close at the points to come are all
abbrev pub invariant-loop-place : goal.invariant-loop-place
invariant-loop-place g l =
    (so_far : List Data) × AreSent l.plan so_far l.batches
    × (so_far
    ++ spans_from l.plan.trace.now (trace_by g.I.TraceIds.trace_of l.traces) l.table (named_by l.spans) (take l.place l.points) (drop l.place l.points)
    ≡ spans_from l.plan.trace.now (trace_by g.I.TraceIds.trace_of l.traces) l.table (named_by l.spans) [] l.points)
