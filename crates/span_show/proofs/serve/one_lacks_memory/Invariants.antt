use Rattle.std.proofs.Common.{take}
use Rattle.std.specs.List.{AllByRecursion}
use Rattle.span_show.specs.Serve.{FoundMemory}
use Rattle.span_show.proofs.serve.one_lacks_memory.Given as goal

-- those looked at so far
abbrev pub invariant-loop-answer : goal.invariant-loop-answer
invariant-loop-answer l = AllByRecursion FoundMemory (take l.answer-index l.answers)
