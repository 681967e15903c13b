use Rattle.span_stacks.proofs.Takes.{own_numbers_take_once}
use Rattle.span_stacks.proofs.laws.one_filter_takes_a_setting.Goals as goal

pub returns : goal.returns
returns c = own_numbers_take_once
