use Rattle.std.proofs.Common.{◌≡◌, drop}
use Rattle.span_core.specs.Span.{number_of}
use Rattle.span_export.specs.Entry.{since_oldest}
use Rattle.span_export.proofs.entry.since_oldest.Given as goal

-- no entry before is one
abbrev pub invariant-loop-place : goal.invariant-loop-place
invariant-loop-place l = since_oldest l.lane.0 (number_of l.span) (drop l.place l.entries) ≡ since_oldest l.lane.0 (number_of l.span) l.entries
