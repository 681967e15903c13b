use Rattle.std.proofs.Common.{◌+◌, ◌<◌, ℕ, Result, Ok, Err, Some, OnErr, count_by, is_some, refl, sym, ap, subst, arith, length, ◌∙◌}
use Rattle.std.proofs.lemmas.Result.{err_from_is_err_and}
use Rattle.std.specs.FinMap.{len}
use Rattle.std.specs.FinSet.{len as set_len}
use Rattle.slab.specs.Slab.{Slab, Updates, get as under}
use Rattle.span_store.specs.private.StoreRepr.{Inserts, KeepsSpans, KeptSpans, kept_of}
use Rattle.span_store.specs.private.Slot.{SlotState}
use Rattle.span_store.specs.declared.span_record.SpanRecord.{SpanRecord}
use Rattle.span_store.proofs.Stored.{keeps_grown, kept_grown, len-found, none_reserved, puts_in}
use Rattle.span_store.proofs.span_store.SpanStore.insert.Goals as goal

on_err : {A E P : Type 0} (r : Result A E) → P → OnErr r P
on_err (Ok v) p = tt
on_err (Err e) p = p

pub invariant_of-self-in_err-reach : goal.invariant_of-self-in_err-reach
invariant_of-self-in_err-reach c = keeps_grown c.self.inside c.reserve.new.self
    c.reach.new.extensions c.self.invariant (ap (λ (r : Slab SpanRecord). r.slots) c.reserve.ensures.rest_kept) c.reserve.ensures.capacity c.reach.ensures.grown

pub returns-in_err-reserve-clause-memory : goal.returns-in_err-reserve-clause-memory
returns-in_err-reserve-clause-memory c =
    let p = err_from_is_err_and c.from_residual.result c.from_residual.ensures.1 in
    let full = c.in_err-reserve.ensures.full in
    let many = c.self.invariant.all in
    let room = c.self.invariant.room in
    rw (p.1, p.2) (refl, none_reserved c.self.inside _ c.self.invariant c.self.view_is (omega arith))

pub returns-in_err-reach-clause-memory : goal.returns-in_err-reach-clause-memory
returns-in_err-reach-clause-memory c =
    let p = err_from_is_err_and c.from_residual-in_err-reach.result c.from_residual-in_err-reach.ensures.1 in
    let u = c.in_err-reach.ensures.memory in
    let same = ap (λ (r : Slab SpanRecord). r.slots) c.reserve.ensures.rest_kept in
    let long = ap length same in
    let covered = c.self.invariant.covered in
    let within = c.vacant_key-key.ensures.within in
    let full = c.vacant_key-key.ensures.full (omega arith) in
    let many = ap (count_by is_some) same in
    let all = c.self.invariant.all in
    let reached = c.self.invariant.reached in
    rw (p.1, p.2) (u.0, none_reserved c.self.inside _ c.self.invariant c.self.view_is (omega arith))

pub returns-in_err-id-clause-memory : goal.returns-in_err-id-clause-memory
returns-in_err-id-clause-memory c =
    let p = err_from_is_err_and c.from_residual-in_err-id.result c.from_residual-in_err-id.ensures.1 in
    let u = c.in_err-id.ensures.memory in
    rw (p.1, p.2) (u.0, none_reserved c.self.inside _ c.self.invariant c.self.view_is u.1)

pub returns-in_err-reach-clause-unchanged : goal.returns-in_err-reach-clause-unchanged
returns-in_err-reach-clause-unchanged c = on_err c.from_residual-in_err-reach.result (kept_grown c.self.inside c.reserve.new.self
    c.reach.new.extensions c.self.invariant (ap (λ (r : Slab SpanRecord). r.slots) c.reserve.ensures.rest_kept) c.reach.ensures.grown ∙ c.self.view_is)

pub take-requires : goal.take-requires
take-requires c =
    let a = c.self.inside in
    let many = len-found (under a.records) a.slots.keys c.self.invariant.recorded in
    record {
      place = subst (λ (n : ℕ). n + a.slots.retired < a.slots.limits.places)
          many (subst (λ (s : KeptSpans). len s.records + s.retired < s.limits.places) (sym c.self.view_is) c.requires.place);
      id = subst (λ (s : KeptSpans). set_len s.issued < 18446744073709551615) (sym c.self.view_is) c.requires.id;
    }

pub invariant_of-self-in_err-id : goal.invariant_of-self-in_err-id
invariant_of-self-in_err-id c =
    subst (λ (s : SlotState). KeepsSpans (record { slots = s; records = c.reserve.new.self; extensions = c.reach.new.extensions }))
    (sym c.in_err-id.ensures.unchanged)
    (keeps_grown c.self.inside c.reserve.new.self c.reach.new.extensions
    c.self.invariant (ap (λ (r : Slab SpanRecord). r.slots) c.reserve.ensures.rest_kept) c.reserve.ensures.capacity c.reach.ensures.grown)

pub returns-in_err-id-clause-unchanged : goal.returns-in_err-id-clause-unchanged
returns-in_err-id-clause-unchanged c =
    on_err c.from_residual-in_err-id.result
    (ap (λ (s : SlotState). kept_of (record { slots = s; records = c.reserve.new.self; extensions = c.reach.new.extensions })) c.in_err-id.ensures.unchanged
    ∙ kept_grown c.self.inside c.reserve.new.self
    c.reach.new.extensions c.self.invariant (ap (λ (r : Slab SpanRecord). r.slots) c.reserve.ensures.rest_kept) c.reach.ensures.grown ∙ c.self.view_is)

puts : (c : goal.After-insert_reserved)
    → KeepsSpans (record { slots = c.take.new.self; records = c.insert_reserved.new.self; extensions = c.reach.new.extensions }) × Inserts c.in_ok-id.id
    c.args.span c.args.self.now (kept_of (record { slots = c.take.new.self; records = c.insert_reserved.new.self; extensions = c.reach.new.extensions }))
puts c =
    let key = c.vacant_key-key.result in
    let updates = subst (λ (k : ℕ). Updates c.reserve.new.self c.insert_reserved.new.self k (Some c.args.span))
    (c.insert_reserved.ensures.key ∙ sym c.vacant_key-key.ensures.value) c.insert_reserved.ensures.updates in
    puts_in c.self.inside c.args.self.now c.in_ok-id.id key c.args.span c.take.new.self c.reserve.new.self c.insert_reserved.new.self
    c.reach.new.extensions c.self.invariant c.self.view_is (ap (λ (r : Slab SpanRecord). r.slots) c.reserve.ensures.rest_kept) c.reserve.ensures.capacity
    c.reach.ensures.grown (let reached = c.in_ok-reach.ensures.reached in omega arith) c.vacant_key-key.ensures.vacant updates c.insert_reserved.ensures.len
    (let few = c.insert_reserved.ensures.slots in let at = c.insert_reserved.ensures.key in let value = c.vacant_key-key.ensures.value in omega arith)
    c.insert_reserved.ensures.capacity c.in_ok-id.ensures.taken

pub invariant_of-self-2 : goal.invariant_of-self-2
invariant_of-self-2 c = (puts c).0

pub returns-clause-inserted : goal.returns-clause-inserted
returns-clause-inserted c = (puts c).1
