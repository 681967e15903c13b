use Rattle.span_stacks.proofs.Number.{numbers_are_own}
use Rattle.span_stacks.proofs.laws.numbers_are_own.Goals as goal

pub returns : goal.returns
returns c = numbers_are_own
