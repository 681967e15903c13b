use Rattle.std.proofs.Common.{◌≡◌, ◌%◌, ℕ, zero, suc, List, [], ◌∷◌, Option, Some, set, subst}
use Rattle.span_dispatch.specs.Registration.{IsRegistered}
use Rattle.span_dispatch.specs.declared.dispatch.Dispatch.{Dispatch}
use Rattle.span_dispatch.specs.declared.registration.Registration.{Registration}
use Rattle.span_tracer.specs.private.Callsite.{AreRegistered}
use Rattle.span_tracer.proofs.callsite.learn.Goals as goal

-- a registration that is valid takes a place in a table whose registrations are
module _ {S : Type 0} (d : Dispatch S) (one : Registration) (valid : IsRegistered d one) where
  learned : (table : List (Option Registration)) (i : ℕ) → AreRegistered d table → AreRegistered d (set table i (Some one))
  learned [] i h place r e = absurd (cc)
  learned (x ∷ xs) zero h zero r e = let it : one ≡ r = cc in subst (IsRegistered d) it valid
  learned (x ∷ xs) zero h (suc place) r e = h (suc place) r e
  learned (x ∷ xs) (suc i) h zero r e = h zero r e
  learned (x ∷ xs) (suc i) h (suc place) r e = learned xs i (λ q. h (suc q)) place r e

pub returns-clause-registered : goal.returns-clause-registered
returns-clause-registered g c = learned c.register_callsite.new.self c.in-Ok.registration c.in-Ok.ensures.registers c.args.table.now.places
    (c.callsite.result % 64) (λ place r e. c.in-Ok.ensures.registered r (c.requires.registered place r e))
