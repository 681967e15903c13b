use Rattle.std.proofs.Common.{◌≡◌, ◌∙◌, ap, map, rules}
use Rattle.std.proofs.lemmas.Map.Iter.{iter_end}
use Rattle.std.specs.Map.Iter.{deref_pair}
use Rattle.span_timing.proofs.Ranks.{count_more, total}
use Rattle.span_timing.proofs.histogram.Histogram.count.Goals as goal
use Rattle.span_timing.specs.Histogram.{counts_in}
use Rattle.span_times.specs.Measure.{capped}

pub loop-times-preserved : goal.loop-times-preserved
loop-times-preserved c = count_more c.loop-times.yielded (c.in-Some.field-0-0, c.in-Some.times) c.loop-times.count c.saturating_add-count.result
    c.loop-times.invariant c.saturating_add-count.ensures

pub returns : goal.returns
returns c =
    let whole : map deref_pair c.loop-times.yielded ≡ counts_in c.args.self.now = search (rules, iter_end) in
    c.loop-times.invariant ∙ ap (λ es. capped (total es)) whole
