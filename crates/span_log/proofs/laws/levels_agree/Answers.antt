use Rattle.std.proofs.Common.{rules}
use Rattle.span_log.proofs.Likes.{each_filter, each_level, filter_same, level_same, same_filter, same_level, same_name}
use Rattle.span_log.proofs.laws.levels_agree.Goals as goal

pub returns : goal.returns
returns c = record {
  levels = λ a b. (same_level a b, level_same a b);
  filters = λ f g. (same_filter f g, filter_same f g);
  each = each_level;
  each_filter = each_filter;
  names = same_name;
  here = search rules;
  there = search rules;
  filter_here = search rules;
  filter_there = search rules;
  order = search rules;
  passes = search rules;
}
