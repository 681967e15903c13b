use Rattle.std.proofs.Common.{◌≡◌, ◌+◌, ◌≤◌, vec_len, vec_capacity}
use Rattle.span_shared.specs.Worker.{AreCrew}
use Rattle.span_shared.proofs.shared.make_crew.Given as goal

abbrev pub invariant-loop-lane : goal.invariant-loop-lane
invariant-loop-lane g l =
    (l.rest.parts + l.lane ≡ l.workers) × (l.rest.amount ≡ 0) × (vec_len l.made ≡ l.lane) × (l.workers ≤ vec_capacity l.made)
    × AreCrew l.hint l.made.items
