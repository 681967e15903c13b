use Rattle.span_timing.proofs.Rows.{part_more}
use Rattle.span_timing.specs.declared.life.Life.{Life}
use Rattle.span_timing.proofs.timing.Row.add.Goals as goal

pub returns : goal.returns
returns c = λ lives was.
    let row = c.args.self.now in
    record {
      busy = part_more (λ (l : Life). l.busy) lives c.args.life row.busy c.add.new.self c.in_ok-add.ensures.added was.busy;
      idle = part_more (λ (l : Life). l.idle) lives c.args.life row.idle c.add-2.new.self c.in_ok-add-2.ensures.added was.idle;
      «open» = part_more (λ (l : Life). l.open) lives c.args.life row.open c.add-3.new.self c.in_ok-add-3.ensures.added was.open;
    }
