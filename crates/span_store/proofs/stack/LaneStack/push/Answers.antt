use Rattle.std.proofs.Common.{ap, arith, length, refl}
use Rattle.std.proofs.lemmas.Result.{err_from_is_err_and}
use Rattle.span_store.specs.LaneStack.{HeldStack}
use Rattle.span_store.proofs.Distinct.{few_distinct}
use Rattle.span_store.proofs.stack.LaneStack.push.Goals as goal

pub returns-in_err-reserve-clause-memory : goal.returns-in_err-reserve-clause-memory
returns-in_err-reserve-clause-memory c =
    let p = err_from_is_err_and c.from_residual.result c.from_residual.ensures.1 in
    let few = few_distinct (c.self.inside.entries).spans c.self.inside.distinct.items c.self.invariant.0 in
    let room = c.self.invariant.1 in
    let full = c.in_err-reserve.ensures.full in
    let spans = ap (λ (s : HeldStack). length s.spans) c.self.view_is in
    let rooms = ap (λ (s : HeldStack). s.room) c.self.view_is in
    rw (p.1, p.2) (refl, omega arith)
