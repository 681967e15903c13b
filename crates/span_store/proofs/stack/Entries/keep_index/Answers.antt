use Rattle.std.proofs.Common.{List, sym, subst}
use Rattle.span_store.specs.declared.stack.Entry.{Entry}
use Rattle.span_store.specs.private.Index.{Indexes}
use Rattle.span_store.specs.private.Marks.{AreMarked, ids_down}
use Rattle.span_store.proofs.stack.Entries.keep_index.Goals as goal

pub index_of-requires : goal.index_of-requires
index_of-requires c = subst AreMarked (sym c.deref.ensures.value) c.self.invariant.0.marked

pub invariant_of-self : goal.invariant_of-self
invariant_of-self c =
    (c.self.invariant.0, c.self.invariant.1, subst (λ (es : List Entry). Indexes c.index_of.result (ids_down es)) c.deref.ensures.value c.index_of.ensures)
