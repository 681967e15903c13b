use Rattle.std.proofs.Common.{◌≡◌, ◌+◌, drop}
use Rattle.span_appender.specs.Lines.{first_line_length}
use Rattle.span_appender.proofs.lines.first_line.Given as goal

-- what is behind has no newline
abbrev pub invariant-loop-i : goal.invariant-loop-i
invariant-loop-i l = first_line_length l.text ≡ l.i + first_line_length (drop l.i l.text)
