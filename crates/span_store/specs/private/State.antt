-- How a registry's fields are seen as its state.
use Rattle.std.specs.Prelude.{◌≡◌}
use Rattle.std.specs.FinMap.{empty, entries}
use Rattle.std.specs.FinSet.{len as set_len}
use Rattle.span_store.specs.private.StoreRepr.{IsKept, spans_of}
use Rattle.span_store.specs.Store.{RegistryState, Store}
use Rattle.span_store.specs.declared.registry.Registry.TheInside.{Inside}

-- the store that these fields keep
abbrev pub store_of : Inside → Store
store_of a = record {
  spans = spans_of (entries a.spans.records);
  extensions = a.spans.extensions;
  issued = a.spans.issued;
  stacks = a.stacks.stacks;
}

-- the registry that these fields keep
abbrev pub state_of : Inside → RegistryState
state_of a = record {
  store = store_of a;
  limits = a.spans.limits;
  filters = a.filters;
  retired = a.spans.retired;
  reserved = record { places = a.spans.reserved; entries = a.stacks.rooms };
}

-- what a registry keeps true of its fields: its spans are sound, and no lane has a stack before an
-- id is issued
pub record IsSound (a : Inside) : Type 0 where
  pub kept : IsKept (entries a.spans.records)
  pub begins : set_len a.spans.issued ≡ 0 → a.stacks.stacks ≡ empty
