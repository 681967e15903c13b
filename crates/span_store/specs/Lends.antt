-- What a registry ends as where a `&mut` to a span's extensions is returned, and what the values
-- end as that are kept by keys.
use Rattle.std.specs.Prelude.{ℕ, Option}
use Rattle.std.specs.Borrow.{Fml, Lends, LendsIf, MutBor, RattleType}
use Rattle.slab.specs.Slab.{Slab, with_value as with_kept}
use Rattle.span_core.specs.Span.{number_of}
use Rattle.span_core.specs.declared.span.Id.{Id}
use Rattle.span_extensions.specs.contracts.extensions.ExtensionMap.{the_row as map_row}
use Rattle.span_extensions.specs.declared.extensions.ExtensionMap.{ExtensionMap}
use Rattle.span_store.specs.Store.{RegistryState, with_extensions}
use Rattle.span_store.specs.contracts.keyed.Keyed.{the_row as keyed_row}
use Rattle.span_store.specs.contracts.registry.Registry.{the_row}

-- once the borrow r ends, the span has the extensions that r had last; at `None` the registry stays
-- as it is
abbrev pub lends_extensions : MutBor RegistryState → Id → Option (MutBor ExtensionMap) → Fml
lends_extensions s id r = LendsIf the_row map_row s r (with_extensions s.now (number_of id)) s.now

-- once the borrow r ends, the key has the value that r had last
abbrev pub lends_kept_value : (T : RattleType) → MutBor (Slab T.Denot) → ℕ → MutBor T.Denot → Fml
lends_kept_value T s key r = Lends (keyed_row T) T s r (with_kept s.now key)

-- once the borrow r ends, if it is one, the key has the value that r had last; at `None` the values
-- stay as they are
abbrev pub lends_kept : (T : RattleType) → MutBor (Slab T.Denot) → ℕ → Option (MutBor T.Denot) → Fml
lends_kept T s key r = LendsIf (keyed_row T) T s r (with_kept s.now key) s.now
