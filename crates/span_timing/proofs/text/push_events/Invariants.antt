use Rattle.std.proofs.Common.{◌≡◌, ◌++◌, ◌∷◌, [], flat_map, take}
use Rattle.span_timing.specs.Text.{event_lines, event_words}
use Rattle.span_timing.specs.Timing.{events_at}
use Rattle.span_timing.specs.private.Cells.{lines_in}
use Rattle.span_timing.proofs.text.push_events.Given as goal

-- the lines of the callsites so far are there
abbrev pub invariant-loop-callsite : goal.invariant-loop-callsite
invariant-loop-callsite l = lines_in l.lines.items
    ≡ (lines_in l.fn.lines.items ++ event_words ∷ []) ++ flat_map (λ n. event_lines l.sites n (events_at n l.timing)) (take l.callsite-index l.callsites)
