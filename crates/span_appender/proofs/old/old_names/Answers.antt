use Rattle.std.proofs.Common.{rules, arith, drop, length-drop, take-append-drop}
use Rattle.span_appender.proofs.old.old_names.Goals as goal

pub returns : goal.returns
returns c =
    let n = c.saturating_sub-old.result in
    let sorted = c.sort.new.self.items in
    let whole = take-append-drop n sorted in
    record {
      kept = drop n sorted;
      all = rw (c.truncate.ensures.items, whole) c.sort.ensures.permutation;
      sorted = rw (c.truncate.ensures.items, whole) c.in_ok-sort.ensures.sorted;
      count = grind (arith, length-drop, c.len.ensures, c.sort.ensures.len, c.saturating_sub-old.ensures, c.args.names.ok.0);
    }
