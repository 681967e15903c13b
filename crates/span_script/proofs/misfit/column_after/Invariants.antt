use Rattle.std.proofs.Common.{◌≡◌, take}
use Rattle.span_script.specs.Misfit.{column_after}
use Rattle.span_script.specs.Script.{texts_in}
use Rattle.span_script.proofs.misfit.column_after.Given as goal

-- the column behind the words so far
abbrev pub invariant-loop-word : goal.invariant-loop-word
invariant-loop-word l = l.column ≡ column_after (texts_in (take l.word-index l.words))
