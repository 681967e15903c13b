use Rattle.span_stacks.proofs.Hint.{above_is_unwanted}
use Rattle.span_stacks.proofs.Interest.{never_is_unwanted}
use Rattle.span_stacks.proofs.laws.the_ruled_out_are_unwanted.Goals as goal

pub returns-clause-never : goal.returns-clause-never
returns-clause-never c = never_is_unwanted

pub returns-clause-above : goal.returns-clause-above
returns-clause-above c = above_is_unwanted
