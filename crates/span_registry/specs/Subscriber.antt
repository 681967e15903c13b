-- What each call of a subscriber does to the registry that it stands on: what the registry's own
-- call does, and then its hooks may write extensions.
use Rattle.std.specs.Prelude.{◌≡◌, ℕ, zero, suc, Option, None}
use Rattle.std.specs.Option.{unwrap_or}
use Rattle.span_core.specs.declared.interest.Interest.TheVariants.{Always}
use Rattle.span_core.specs.declared.interest.Interest.{Interest}
use Rattle.span_store.specs.Store.{RegistryState}

-- two registries are the same, extensions aside
pub record SameButExtensions (old : RegistryState) (new : RegistryState) : Type 0 where
  pub spans : new.store.spans ≡ old.store.spans
  pub issued : new.store.issued ≡ old.store.issued
  pub stacks : new.store.stacks ≡ old.store.stacks
  pub limits : new.limits ≡ old.limits
  pub filters : new.filters ≡ old.filters
  pub retired : new.retired ≡ old.retired
  pub reserved : new.reserved ≡ old.reserved

-- the registry takes a step, and then hooks may write extensions
pub record AndHooks {S : Type 0} (registry : S → RegistryState)
    (step : RegistryState → RegistryState → Type 0) (old new : S) : Type 0 where
  pub stepped : RegistryState
  pub taken : step (registry old) stepped
  pub hooks : SameButExtensions stepped (registry new)

-- the interest of a registry that handed out this many filters: always without filters, else their
-- sum, always where there is none
abbrev pub registry_interest : ℕ → Option Interest → Interest
registry_interest zero sum = Always
registry_interest (suc n) sum = unwrap_or sum Always

-- the sum that such a registry leaves in the pass: it takes what there is
abbrev pub sum_after : ℕ → Option Interest → Option Interest
sum_after zero sum = sum
sum_after (suc n) sum = None
