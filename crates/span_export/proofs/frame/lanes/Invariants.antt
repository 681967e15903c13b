use Rattle.std.proofs.Common.{◌≡◌, ◌++◌, flat_map, string_bytes}
use Rattle.span_export.specs.Frame.{lane_text, lanes_text}
use Rattle.span_export.proofs.frame.lanes.Given as goal

-- the lanes so far and those to come are all
abbrev pub invariant-loop-lane : goal.invariant-loop-lane
invariant-loop-lane l = string_bytes l.text ++ flat_map (λ e. lane_text l.width e.0 e.1) l.lane-iterator ≡ lanes_text l.width l.tops
