use Rattle.std.proofs.Common.{◌≡◌, map, take}
use Rattle.span_core.specs.Span.{number_of}
use Rattle.span_export.specs.Entry.{spans_in}
use Rattle.span_export.proofs.entry.spans_in.Given as goal

-- the spans of the entries so far
abbrev pub invariant-loop-entry : goal.invariant-loop-entry
invariant-loop-entry l = map number_of l.spans.items ≡ spans_in l.lane.0 (take l.entry-index l.entries)
