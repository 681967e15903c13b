-- What a stack, or a context, ends as where a `&mut` into it is returned.
use Rattle.std.specs.Prelude.{[], Option}
use mir.Syntax.{named}
use Rattle.std.specs.Borrow.{Fml, Lends, LendsIf, MutBor, RattleType}
use Rattle.span_core.specs.Span.{number_of}
use Rattle.span_core.specs.declared.span.Id.{Id}
use Rattle.span_extensions.specs.contracts.extensions.ExtensionMap.{the_row as map_row}
use Rattle.span_extensions.specs.declared.extensions.ExtensionMap.{ExtensionMap}
use Rattle.span_store.specs.Store.{RegistryState, with_extensions}
use Rattle.span_store.specs.contracts.registry.Registry.{the_row}
use Rattle.span_registry.specs.Context.{subscriber_lent, with_subscriber}
use Rattle.span_registry.specs.contracts.context.ContextMut.{the_row as context_row}
use Rattle.span_registry.specs.declared.context.ContextMut.{ContextMut}

-- once the borrow r ends, s is what it was, but stands on the registry that r had last
abbrev pub lends_registry : (T : RattleType) → (T.Denot → RegistryState → T.Denot) → MutBor T.Denot
    → MutBor RegistryState → Fml
lends_registry T with_registry s r = Lends T the_row s r (with_registry s.now)

-- the type of a context that lends a subscriber of the type T
abbrev pub context_over : RattleType → RattleType
context_over T = context_row (record { mir = named 1; lft = [] }) T

-- once what is lent on is given back, the context lends the subscriber as it then was
abbrev pub lends_subscriber : (T : RattleType) → MutBor (ContextMut T.Denot) → ContextMut T.Denot
    → Fml
lends_subscriber T c d = Lends (context_over T) T c d.subscriber (with_subscriber c.now)

module _ (T : RattleType) (registry : T.Denot → RegistryState)
    (with_registry : T.Denot → RegistryState → T.Denot) where
  -- the context, once this span has these extensions
  abbrev pub with_extensions_seen : ContextMut T.Denot → Id → ExtensionMap → ContextMut T.Denot
  with_extensions_seen c id e =
      with_subscriber c (with_registry (subscriber_lent c)
      (with_extensions (registry (subscriber_lent c)) (number_of id) e))

  -- once the borrow r ends, the span has the extensions that r had last; at `None` the context
  -- stays as it is
  abbrev pub lends_seen : MutBor (ContextMut T.Denot) → Id → Option (MutBor ExtensionMap) → Fml
  lends_seen c id r = LendsIf (context_over T) map_row c r (with_extensions_seen c.now id) c.now
