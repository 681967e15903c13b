-- A receiver's table of callsites.
use Rattle.std.specs.Prelude.{◌≡◌, ◌%◌, ℕ, List, Option, Some, slice_get}
use Rattle.span_core.specs.Metadata.{callsite_of}
use Rattle.span_core.specs.declared.metadata.Metadata.{Metadata}
use Rattle.span_dispatch.specs.Registration.{IsRegistered}
use Rattle.span_dispatch.specs.declared.dispatch.Dispatch.{Dispatch}
use Rattle.span_dispatch.specs.declared.registration.Registration.{Registration}

-- what a table has at the place of these metadata's callsite
abbrev pub at_place : List (Option Registration) → Metadata → Option (Option Registration)
at_place table m = slice_get table (callsite_of m % 64)

-- each registration in the table is valid at the dispatcher
abbrev pub AreRegistered : {S : Type 0} → Dispatch S → List (Option Registration) → Type 0
AreRegistered d table =
    (place : ℕ) (r : Registration) → slice_get table place ≡ Some (Some r) → IsRegistered d r

-- no registration is in the table
abbrev pub HasNoRegistration : List (Option Registration) → Type 0
HasNoRegistration table = (place : ℕ) (r : Registration) → ¬ (slice_get table place ≡ Some (Some r))
