-- Callsites that a dispatcher caches, and registrations by which it is asked without a search.
use Rattle.std.specs.Prelude.{◌≡◌, ◌≤◌, ◌<◌, ◌+◌, ◌-◌, ◌^◌, ℕ, min, IfSome}
use Rattle.span_core.specs.declared.interest.Interest.{Interest, TheVariants.Always}
use Rattle.span_core.specs.declared.metadata.Metadata.{Metadata}
use Rattle.span_dispatch.specs.Cache.{KnowsInterest}
use Rattle.span_dispatch.specs.declared.{dispatch.Dispatch.Dispatch, registration.Kept.Kept}
use Rattle.span_dispatch.specs.declared.registration.{Epoch.Epoch, Registration.Registration}

-- the last epoch of a dispatcher's cache
abbrev pub last_epoch : ℕ
last_epoch = 2 ^ 64 - 1

-- the epoch after this one; the last one is followed by itself
abbrev pub next_epoch : Epoch → Epoch
next_epoch epoch = record { 0 = min (epoch.0 + 1) last_epoch }

-- the metadata that a registration was made of
abbrev pub registered_metadata : Registration → Metadata
registered_metadata r = r.metadata

-- a dispatcher's cache has this interest, for metadata that show the same
abbrev pub Knows : {S : Type 0} → Dispatch S → Metadata → Interest → Type 0
Knows d m i = KnowsInterest d.cache m i

-- an interest and its epoch: the epoch ends and isn't ahead of the dispatcher's; if it is the
-- dispatcher's, the interest is cached for these metadata
pub record HoldsStill {S : Type 0} (d : Dispatch S) (m : Metadata) (k : Kept) : Type 0 where
  pub past : k.epoch.0 ≤ d.epoch.0
  pub ends : k.epoch.0 < last_epoch
  pub holds : k.epoch.0 ≡ d.epoch.0 → Knows d m k.interest

-- the epoch before which an interest of always holds for these metadata: it isn't ahead of the
-- dispatcher's next one, nor of the last; as long as it is ahead of the dispatcher's, that
-- interest is cached
pub record HoldsUntil {S : Type 0} (d : Dispatch S) (m : Metadata) (until : ℕ) : Type 0 where
  pub past : until ≤ d.epoch.0 + 1
  pub ends : until ≤ last_epoch
  pub holds : d.epoch.0 < until → Knows d m Always

-- a registration is valid at a dispatcher: it has no interest, or one of an epoch that is over
-- there, or one that is cached there
pub record IsRegistered {S : Type 0} (d : Dispatch S) (r : Registration) : Type 0 where
  pub kept : IfSome r.kept (HoldsStill d (registered_metadata r))
  pub always : HoldsUntil d (registered_metadata r) r.always_until

-- each registration that was valid at the old dispatcher is valid at the new one
abbrev pub KeepsRegistered : {S : Type 0} → Dispatch S → Dispatch S → Type 0
KeepsRegistered old new = (r : Registration) → IsRegistered old r → IsRegistered new r
