use Rattle.std.proofs.Common.{false, subst, sym, take}
use Rattle.span_store.specs.declared.stack.Entry.{Entry}
use Rattle.span_store.specs.private.Index.{Indexes}
use Rattle.span_store.specs.private.Marks.{ids_down}
use Rattle.span_store.proofs.Marks.{ids_more, marked_at}
use Rattle.span_store.proofs.stack.index_of.Goals as goal

pub loop-entry-preserved : goal.loop-entry-preserved
loop-entry-preserved c =
    let es = c.args.entries.now in
    let i = c.loop-entry.entry-index in
    let d : Entry = record { id = record { number = 0 }; duplicate = false; before = record { bits = 0 } } in
    let h = c.loop-entry-test.true in
    subst (Indexes c.add.new.self) (sym (ids_more es i d h)) (c.add.ensures (ids_down (take i es)) (marked_at es i d c.requires h) c.loop-entry.invariant)
