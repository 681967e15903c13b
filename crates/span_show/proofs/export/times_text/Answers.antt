use Rattle.std.proofs.Common.{[]}
use Rattle.span_show.proofs.Read.{on_ok}
use Rattle.span_show.proofs.export.times_text.Goals as goal

pub returns : goal.returns
returns c = on_ok c.timing_text.result c.timing_text.ensures (λ text table. record {
  timing = c.add.new.self;
  counts = c.in_ok-add.ensures.added [] [] c.new-timing.ensures;
  table = table;
})
