use Rattle.std.proofs.Common.{◌≡◌, false, take}
use Rattle.std.specs.List.{list_any}
use Rattle.span_script.specs.Script.{is_return}
use Rattle.span_script.proofs.misfit.return_in.Given as goal

-- none of the characters so far is a carriage return
abbrev pub invariant-loop-offset : goal.invariant-loop-offset
invariant-loop-offset l = list_any is_return (take l.offset l.word) ≡ false
