use Rattle.std.proofs.Common.{◌≡◌, ◌++◌, flat_map, map, string_bytes}
use Rattle.span_export.specs.Folded.{line_text}
use Rattle.span_export.specs.Sums.{sums_in}
use Rattle.span_export.proofs.folded.lines.Given as goal

-- the lines so far and those to come are all
abbrev pub invariant-loop-stack : goal.invariant-loop-stack
invariant-loop-stack l =
    string_bytes l.text ++ flat_map line_text (map (λ e. (string_bytes e.0, e.1)) l.stack-iterator) ≡ flat_map line_text (sums_in l.sums)
