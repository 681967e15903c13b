use Rattle.std.proofs.Common.{◌≡◌, take}
use Rattle.span_timing.specs.private.Cells.{cells_in, words_in}
use Rattle.span_timing.proofs.text.line_of.Given as goal

-- the words so far are there
abbrev pub invariant-loop-word : goal.invariant-loop-word
invariant-loop-word l = cells_in l.line.items ≡ words_in (take l.word-index l.words)
