use Rattle.std.proofs.Common.{◌≡◌, ℕ, zero, suc, Option, Some, None, replicate, slice_get}
use Rattle.span_dispatch.specs.declared.registration.Registration.{Registration}
use Rattle.span_tracer.proofs.callsite.Table.new.Goals as goal

-- no registration is among so many nones
none_there : (n place : ℕ) (r : Registration) → let none : Option Registration = None in ¬ (slice_get (replicate n none) place ≡ Some (Some r))
none_there zero place r e = absurd (cc)
none_there (suc n) zero r e = absurd (cc)
none_there (suc n) (suc place) r e = none_there n place r e

pub returns : goal.returns
returns c = λ place r e. none_there 64 place r e
