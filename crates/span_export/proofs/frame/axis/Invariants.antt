use Rattle.std.proofs.Common.{◌≡◌, string_bytes}
use Rattle.span_export.specs.Frame.{axis_text}
use Rattle.span_export.proofs.frame.axis.Given as goal

-- the lines so far
abbrev pub invariant-loop-count : goal.invariant-loop-count
invariant-loop-count l = string_bytes l.text ≡ axis_text l.scale l.plan l.count
