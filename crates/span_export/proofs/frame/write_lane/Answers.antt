use Rattle.std.proofs.Common.{◌≡◌, ◌+◌, ◌-◌, append_assoc, sym}
use Rattle.span_times.specs.Measure.{capped}
use Rattle.span_export.proofs.frame.write_lane.Goals as goal

pub returns : goal.returns
returns c =
    let line : c.saturating_sub-line.result ≡ c.args.top - 4 = c.saturating_sub-line.ensures in
    let base : c.saturating_add-base.result ≡ capped (c.args.top + 30) = c.saturating_add-base.ensures in
    simp append_assoc (rw (sym line, sym base) c.write.ensures.bytes)
