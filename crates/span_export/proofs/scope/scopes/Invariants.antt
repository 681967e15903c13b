use Rattle.std.proofs.Common.{◌≡◌, ℕ, take}
use Rattle.span_export.specs.Scope.{scope_of}
use Rattle.span_export.specs.private.Scopes.{scope_in}
use Rattle.span_export.proofs.scope.scopes.Given as goal

-- the scopes by the points so far
abbrev pub invariant-loop-point : goal.invariant-loop-point
invariant-loop-point l = (x : ℕ) → scope_in l.scopes x ≡ scope_of (take l.point-index l.points) x
