use Rattle.std.proofs.Common.{subst, sym}
use Rattle.span_core.specs.declared.level.TheConstants.LevelFilter.{INFO, TRACE}
use Rattle.span_stacks.specs.Filtered.{IsUnnumbered}
use Rattle.span_script.proofs.Begins.{Levelled, begins_pair, pair_has_room}
use Rattle.span_script.proofs.stacks.pair.Goals as goal

pub put-requires-clause-room : goal.put-requires-clause-room
put-requires-clause-room c =
    let p = c.and_then.ensures in
    pair_has_room c.args.limits c.and_then.result c.new.result c.new-2.result c.with_limits.result c.with_limits.ensures
    (subst (λ (u : Levelled). IsUnnumbered u c.new.result TRACE) (sym p.below) c.with_filter-a.ensures)
    (subst (λ (u : Levelled). IsUnnumbered u c.new-2.result INFO) (sym p.layer) c.with_filter-b.ensures)

pub returns : goal.returns
returns c =
    let p = c.and_then.ensures in
    let h = c.put.ensures in
    begins_pair c.args.limits c.and_then.result c.new.result c.new-2.result c.with_limits.result c.with_limits.ensures
    (subst (λ (u : Levelled). IsUnnumbered u c.new.result TRACE) (sym p.below) c.with_filter-a.ensures)
    (subst (λ (u : Levelled). IsUnnumbered u c.new-2.result INFO) (sym p.layer) c.with_filter-b.ensures)
    c.put.result c.new.ensures c.new-2.ensures h.numbers.alone h.numbers.form h.numbers.next h.layer_as_it_was.0 h.layer_as_it_was.1
