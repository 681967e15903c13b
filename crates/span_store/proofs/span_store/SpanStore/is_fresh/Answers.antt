use Rattle.std.proofs.Common.{subst, slice_get}
use Rattle.slab.specs.Slab.{get as under}
use Rattle.span_store.specs.private.StoreRepr.{KeepsNothing, kept_of}
use Rattle.span_store.proofs.Stored.{found_none}
use Rattle.span_store.proofs.span_store.SpanStore.is_fresh.Goals as goal

pub returns-clause-nothing : goal.returns-clause-nothing
returns-clause-nothing c e =
    let a = c.self.inside in
    let u = c.is_fresh.ensures.unused e in
    let nothing : KeepsNothing (kept_of a) = record {
      records = found_none (under a.records) a.slots.keys u.keys;
      extensions = found_none (slice_get a.extensions.items) a.slots.keys u.keys;
      issued = u.issued;
    } in
    subst KeepsNothing c.self.view_is nothing
