use Rattle.std.proofs.Common.{ap, subst, arith, ◌∙◌, count_by, is_some, sym}
use Rattle.slab.specs.Slab.{Slab}
use Rattle.span_store.specs.private.Slot.{SlotState}
use Rattle.span_store.specs.private.StoreRepr.{KeepsSpans, kept_of}
use Rattle.span_store.specs.declared.span_record.SpanRecord.{SpanRecord}
use Rattle.span_store.proofs.Stored.{keeps_grown, kept_grown, reserves}
use Rattle.span_store.proofs.States.{on_err_any}
use Rattle.span_store.proofs.span_store.SpanStore.reserve.Goals as goal

pub invariant_of-self-in_err-reach : goal.invariant_of-self-in_err-reach
invariant_of-self-in_err-reach c = keeps_grown c.self.inside c.reserve.new.self
    c.reach.new.extensions c.self.invariant (ap (λ (r : Slab SpanRecord). r.slots) c.reserve.ensures.rest_kept) c.reserve.ensures.capacity c.reach.ensures.grown

pub returns-in_err-reach-clause-unchanged : goal.returns-in_err-reach-clause-unchanged
returns-in_err-reach-clause-unchanged c = on_err_any c.from_residual-in_err-reach.result (kept_grown c.self.inside c.reserve.new.self
    c.reach.new.extensions c.self.invariant (ap (λ (r : Slab SpanRecord). r.slots) c.reserve.ensures.rest_kept) c.reach.ensures.grown ∙ c.self.view_is)

pub invariant_of-self-in_err-reserve-2 : goal.invariant_of-self-in_err-reserve-2
invariant_of-self-in_err-reserve-2 c =
    subst (λ (t : SlotState). KeepsSpans (record { slots = t; records = c.reserve.new.self; extensions = c.reach.new.extensions }))
    (sym c.in_err-reserve-2.ensures.unchanged)
    (keeps_grown c.self.inside c.reserve.new.self c.reach.new.extensions
    c.self.invariant (ap (λ (r : Slab SpanRecord). r.slots) c.reserve.ensures.rest_kept) c.reserve.ensures.capacity c.reach.ensures.grown)

pub returns-in_err-reserve-2-clause-unchanged : goal.returns-in_err-reserve-2-clause-unchanged
returns-in_err-reserve-2-clause-unchanged c =
    on_err_any c.from_residual-in_err-reserve-2.result
    (ap
    (λ (t : SlotState). kept_of (record { slots = t; records = c.reserve.new.self; extensions = c.reach.new.extensions })) c.in_err-reserve-2.ensures.unchanged
    ∙ kept_grown c.self.inside c.reserve.new.self
    c.reach.new.extensions c.self.invariant (ap (λ (r : Slab SpanRecord). r.slots) c.reserve.ensures.rest_kept) c.reach.ensures.grown ∙ c.self.view_is)

pub invariant_of-self-2 : goal.invariant_of-self-2
invariant_of-self-2 c =
    let same = ap (λ (r : Slab SpanRecord). r.slots) c.reserve.ensures.rest_kept in
    let many = ap (count_by is_some) same in
    let before = c.len.ensures in
    let more = c.saturating_sub-more.ensures in
    let room = c.in_ok-reserve.ensures.room in
    (reserves c.self.inside c.args.self.now c.reserve-2.new.self c.reserve.new.self
    c.reach.new.extensions c.args.count c.self.invariant c.self.view_is same c.reserve.ensures.capacity c.reach.ensures.grown c.in_ok-reserve-2.ensures.reserved
    (omega arith) (let reached = c.in_ok-reach.ensures.reached in omega arith)).0

pub returns-clause-reserved : goal.returns-clause-reserved
returns-clause-reserved c =
    let same = ap (λ (r : Slab SpanRecord). r.slots) c.reserve.ensures.rest_kept in
    let many = ap (count_by is_some) same in
    let before = c.len.ensures in
    let more = c.saturating_sub-more.ensures in
    let room = c.in_ok-reserve.ensures.room in
    (reserves c.self.inside c.args.self.now c.reserve-2.new.self c.reserve.new.self
    c.reach.new.extensions c.args.count c.self.invariant c.self.view_is same c.reserve.ensures.capacity c.reach.ensures.grown c.in_ok-reserve-2.ensures.reserved
    (omega arith) (let reached = c.in_ok-reach.ensures.reached in omega arith)).1
