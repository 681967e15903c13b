-- What a registration keeps.
use Rattle.std.specs.Prelude.{◌≡◌, ◌≤◌, ◌<◌, ◌+◌, ◌==◌, if◌then◌else◌, ℕ, Option, Some, None}
use Rattle.span_core.specs.declared.interest.Interest.{Interest}
use Rattle.span_core.specs.declared.interest.Interest.TheVariants.{Always}
use Rattle.span_dispatch.specs.declared.registration.Epoch.{Epoch}
use Rattle.span_dispatch.specs.declared.registration.Kept.{Kept}
use Rattle.span_dispatch.specs.declared.registration.Registration.{Registration}
use Rattle.span_core.specs.Metadata.{ShowSame}
use Rattle.span_core.specs.declared.metadata.Metadata.{Metadata}
use Rattle.span_dispatch.specs.declared.dispatch.Dispatch.{Dispatch}
use Rattle.span_dispatch.specs.Registration.{IsRegistered, last_epoch, registered_metadata}

-- what a registration keeps is this interest, of this epoch, which ends
pub record IsKeptIn (epoch : Epoch) (given : Option Interest) (k : Kept) : Type 0 where
  pub here : k.epoch ≡ epoch
  pub ends : epoch.0 < last_epoch
  pub interest : given ≡ Some k.interest

-- the epoch before which an interest of this epoch is always: not ahead of the next one nor of the
-- last; where it is ahead of this one, the interest is always
pub record IsAlwaysUntil (epoch : Epoch) (given : Option Interest) (until : ℕ) : Type 0 where
  pub past : until ≤ epoch.0 + 1
  pub ends : until ≤ last_epoch
  pub holds : epoch.0 < until → given ≡ Some Always

-- the interest that a registration keeps, if it is of this epoch
abbrev pub kept_interest : Epoch → Option Kept → Option Interest
kept_interest epoch None = None
kept_interest epoch (Some k) = if k.epoch.0 == epoch.0 then Some k.interest else None

-- the interest that a registration has in this epoch
abbrev pub interest_in : Epoch → Registration → Option Interest
interest_in epoch r = kept_interest epoch r.kept

-- a registration is valid at a dispatcher, and its metadata show the same as these
pub record IsRegisteredAs {S : Type 0} (m : Metadata) (d : Dispatch S) (r : Registration)
    : Type 0 where
  pub valid : IsRegistered d r
  pub same : ShowSame (registered_metadata r) m
