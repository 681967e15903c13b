use Rattle.std.proofs.Common.{◌++◌, ℕ, List, take}
use Rattle.span_timing.specs.Life.{events_of, lives_of}
use Rattle.span_timing.specs.Timing.{IsTimingOf}
use Rattle.span_timing.specs.declared.life.Life.{Life}
use Rattle.span_timing.proofs.timing.Timing.note_all.Given as goal

-- the points so far are noted
abbrev pub invariant-loop-place : goal.invariant-loop-place
invariant-loop-place l =
    (lives : List Life) (sent : List ℕ) → IsTimingOf lives sent l.fn.self
    → IsTimingOf (lives ++ lives_of (take l.place l.points)) (sent ++ events_of (take l.place l.points)) l.self
