use Rattle.std.proofs.Common.{◌+◌, ◌≤◌, List, ap, arith, length}
use Rattle.std.proofs.lemmas.Bool.{OnTrue_at}
use Rattle.std.proofs.lemmas.List.{drop_all}
use Rattle.span_core.specs.Span.{number_of}
use Rattle.span_store.specs.LaneStack.{stands}
use Rattle.span_store.specs.declared.stack.Entry.{Entry}
use Rattle.span_store.specs.private.Marks.{ids}
use Rattle.span_store.proofs.stack.last_place.Goals as goal

pub returns-then-is_entry_at : goal.returns-then-is_entry_at
returns-then-is_entry_at c =
    let es = c.args.entries.now in
    let top = c.saturating_sub-top.result in
    let all : length es ≤ top + 1 = omega arith in
    record {
      within = OnTrue_at c.if-is_entry_at.true c.is_entry_at.ensures.within;
      there = OnTrue_at c.if-is_entry_at.true c.is_entry_at.ensures.there;
      apart = ap (λ (us : List Entry). stands (number_of c.args.id) (ids us)) (drop_all (top + 1) es all);
    }
