use Rattle.std.proofs.Common.{◌≡◌, drop, false}
use Rattle.std.specs.List.{list_any}
use Rattle.span_core.specs.Span.{number_of}
use Rattle.span_export.specs.Entry.{is_of}
use Rattle.span_export.proofs.entry.leave.Given as goal

-- no entry from here on is one
abbrev pub invariant-loop-place : goal.invariant-loop-place
invariant-loop-place l = record {
  same : l.entries ≡ l.initial.entries;
  none : list_any (is_of l.lane.0 (number_of l.span)) (drop l.place l.entries.items) ≡ false;
}
