use Rattle.span_stacks.proofs.Built.{rules_of}
use Rattle.span_stacks.proofs.laws.an_honest_stack_keeps_the_rules.Goals as goal

pub returns-clause-numbers : goal.returns-clause-numbers
returns-clause-numbers c = λ f n h. h.numbers

pub returns-clause-orderly : goal.returns-clause-orderly
returns-clause-orderly c = λ f n h. (rules_of f n h).orderly

pub returns-clause-still : goal.returns-clause-still
returns-clause-still c = λ f n h. (rules_of f n h).still
