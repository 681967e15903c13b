use Rattle.std.proofs.Common.{ap, ◌∙◌, arith, inl, inr}
use Rattle.std.proofs.lemmas.Result.{err_from_is_err_and}
use Rattle.span_store.specs.private.Slot.{number_at}
use Rattle.span_store.proofs.SlotChanges.{sound_room}
use Rattle.span_store.proofs.SlotSteps.{free_within, may_make_at, none_reserved, sound_again, sound_new, takes_again, takes_from, takes_new}
use Rattle.span_store.proofs.slot.Slots.take.Goals as goal

pub index_mut-requires : goal.index_mut-requires
index_mut-requires c = omega (arith, free_within _ _ _ _ _ c.self.invariant.sound c.pop.new.self.items c.in-Some.slot c.in-Some.ensures.items)

pub id_at-requires : goal.id_at-requires
id_at-requires c = omega (arith, free_within _ _ _ _ _ c.self.invariant.sound c.pop.new.self.items c.in-Some.slot c.in-Some.ensures.items)

pub invariant_of-self : goal.invariant_of-self
invariant_of-self c =
    record {
      sound = rw c.hold-generation.ensures.held
          (sound_room _ _ _ _ _ (sound_again _ _ _
          _ _ c.self.invariant.sound c.pop.new.self.items c.in-Some.slot c.args.key c.index_mut.result.now c.in-Some.ensures.items c.index_mut.ensures.value) _
          (let e = c.pop.ensures.capacity in omega arith));
      made = c.self.invariant.made;
      freed = (let e = c.pop.ensures.capacity in let f = c.self.invariant.freed in omega arith);
    }

pub make-requires : goal.make-requires
make-requires c =
    let below = may_make_at c.self.inside _ c.self.view_is c.self.invariant.sound (omega (arith, c.in-None.ensures.cases.0)) c.requires in
    omega arith

pub id_at-requires-in-None : goal.id_at-requires-in-None
id_at-requires-in-None c =
    let below = may_make_at c.self.inside _ c.self.view_is c.self.invariant.sound (omega (arith, c.in-None.ensures.cases.0)) c.requires in
    omega arith

pub invariant_of-self-in-None : goal.invariant_of-self-in-None
invariant_of-self-in-None c =
    let made = c.in_ok-make-in-None.ensures in
    let below = may_make_at c.self.inside _ c.self.view_is c.self.invariant.sound (omega (arith, c.in-None.ensures.cases.0)) c.requires in
    record {
      sound = sound_new _ _ _ _ _ c.self.invariant.sound
          c.make.new.slots.items c.make.new.free.items c.pop.new.self.items _ c.args.key below made.made made.free c.in-None.ensures.items made.room;
      made = (let k = made.capacity in let h = c.self.invariant.made in omega arith);
      freed = (let e = c.pop.ensures.capacity in let k = made.kept in let h = c.self.invariant.freed in omega arith);
    }

pub returns-in_err-make-in-None-clause-memory : goal.returns-in_err-make-in-None-clause-memory
returns-in_err-make-in-None-clause-memory c =
    let p = err_from_is_err_and c.from_residual.result c.from_residual.ensures.1 in
    let u = c.in_err-make-in-None.ensures.memory in
    let made = c.self.invariant.made in
    let freed = c.self.invariant.freed in
    let same = c.pop.ensures.capacity in
    let none = c.in-None.ensures.cases.0 in
    rw (p.1, p.2)
    (u.0, none_reserved c.self.inside _ c.self.view_is c.self.invariant (omega arith) (elim u.1 [ inl slots ↦ omega arith | inr free ↦ omega arith ]))

pub returns-in-Some-clause-taken : goal.returns-in-Some-clause-taken
returns-in-Some-clause-taken c =
    takes_from _ _ _ _ _ c.self.view_is
    (rw c.hold-generation.ensures.held
    (takes_again _ _ _ _ _ c.self.invariant.sound c.pop.new.self.items c.in-Some.slot c.args.key c.index_mut.result.now
    c.id_at.result c.in-Some.ensures.items c.index_mut.ensures.value (c.id_at.ensures ∙ ap (number_at c.in-Some.slot) c.hold-generation.ensures.generation)))

pub returns-in_ok-make-in-None-clause-taken : goal.returns-in_ok-make-in-None-clause-taken
returns-in_ok-make-in-None-clause-taken c =
    let below = may_make_at c.self.inside _ c.self.view_is c.self.invariant.sound (omega (arith, c.in-None.ensures.cases.0)) c.requires in
    takes_from _ _ _ _ _ c.self.view_is
    (takes_new _ _ _ _ _ c.self.invariant.sound c.make.new.slots.items c.len-slot.result
    c.args.key c.id_at-in-None.result below c.in_ok-make-in-None.ensures.made (let e = c.len-slot.ensures in omega arith) c.id_at-in-None.ensures)
