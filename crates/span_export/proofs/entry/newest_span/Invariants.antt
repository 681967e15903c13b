use Rattle.std.proofs.Common.{◌≡◌, take}
use Rattle.std.specs.Option.{option_map}
use Rattle.span_core.specs.Span.{number_of}
use Rattle.span_export.specs.Entry.{newest_span}
use Rattle.span_export.proofs.entry.newest_span.Given as goal

-- the newest entry so far
abbrev pub invariant-loop-entry : goal.invariant-loop-entry
invariant-loop-entry l = option_map number_of l.newest ≡ newest_span l.lane.0 (take l.entry-index l.entries)
