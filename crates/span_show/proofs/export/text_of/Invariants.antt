use Rattle.std.proofs.Common.{◌≡◌, flat_map, string_bytes, take}
use Rattle.span_show.specs.Show.{line_of}
use Rattle.span_show.proofs.export.text_of.Given as goal

-- the lines so far
abbrev pub invariant-loop-line : goal.invariant-loop-line
invariant-loop-line l = string_bytes l.text ≡ flat_map line_of (take l.line-index l.lines)
