use Rattle.std.proofs.Common.{◌≡◌, take}
use Rattle.span_timing.specs.Text.{each_once}
use Rattle.span_timing.proofs.text.each_once.Given as goal

-- the numbers so far are there
abbrev pub invariant-loop-number : goal.invariant-loop-number
invariant-loop-number l = l.once.items ≡ each_once (take l.number-index l.numbers)
