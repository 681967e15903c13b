use Rattle.std.proofs.Common.{Some, refl, arith}
use Rattle.std.proofs.lemmas.Option.{slice_get_within}
use Rattle.span_store.proofs.SlotChanges.{one_held, slot_at, sound_freed, sound_retired, sound_room}
use Rattle.span_store.proofs.SlotSteps.{gives_free, gives_from, gives_retired, held_at, held_somewhere}
use Rattle.span_store.proofs.slot.Slots.give_back.Goals as goal

pub overflow_add-next : goal.overflow_add-next
overflow_add-next c =
    let there = held_at c.self.inside _ _ _ _ c.self.view_is c.self.invariant.sound c.in-Some.ensures.slot c.in-Some.ensures.at c.requires in
    let h = c.self.invariant.sound.within c.in-Some.slot (slot_at c.in-Some.generation (Some there.0)) there.1 in
    omega arith

pub index_mut-requires : goal.index_mut-requires
index_mut-requires c =
    let there = held_at c.self.inside _ _ _ _ c.self.view_is c.self.invariant.sound c.in-Some.ensures.slot c.in-Some.ensures.at c.requires in
    omega (arith, slice_get_within c.self.inside.slots.items c.in-Some.slot (slot_at c.in-Some.generation (Some there.0)) there.1)

pub push_reserved-requires : goal.push_reserved-requires
push_reserved-requires c =
    let there = held_at c.self.inside _ _ _ _ c.self.view_is c.self.invariant.sound c.in-Some.ensures.slot c.in-Some.ensures.at c.requires in
    let h = one_held _ _ _ _ _ c.self.invariant.sound c.in-Some.slot c.in-Some.generation there.0 there.1 in
    omega arith

pub invariant_of-self : goal.invariant_of-self
invariant_of-self c =
    let there = held_at c.self.inside _ _ _ _ c.self.view_is c.self.invariant.sound c.in-Some.ensures.slot c.in-Some.ensures.at c.requires in
    record {
      sound = sound_room _ _ _ _ _ (sound_freed _ _ _ _ _ c.self.invariant.sound
          c.push_reserved.new.self.items c.in-Some.slot c.in-Some.generation there.0 c.push_reserved.ensures.items there.1 c.if-next-self.true) _ (omega arith);
      made = c.self.invariant.made;
      freed = (let e = c.push_reserved.ensures.capacity in let h = c.self.invariant.freed in omega arith);
    }

pub overflow_add-self : goal.overflow_add-self
overflow_add-self c =
    let there = held_at c.self.inside _ _ _ _ c.self.view_is c.self.invariant.sound c.in-Some.ensures.slot c.in-Some.ensures.at c.requires in
    let h = one_held _ _ _ _ _ c.self.invariant.sound c.in-Some.slot c.in-Some.generation there.0 there.1 in
    omega arith

pub invariant_of-self-else-next-self : goal.invariant_of-self-else-next-self
invariant_of-self-else-next-self c =
    let there = held_at c.self.inside _ _ _ _ c.self.view_is c.self.invariant.sound c.in-Some.ensures.slot c.in-Some.ensures.at c.requires in
    record {
      sound = sound_retired _ _ _ _ _ c.self.invariant.sound c.in-Some.slot c.in-Some.generation there.0 there.1 (omega arith);
      made = c.self.invariant.made;
      freed = c.self.invariant.freed;
    }

pub returns-then-next-self : goal.returns-then-next-self
returns-then-next-self c =
    let there = held_at c.self.inside _ _ _ _ c.self.view_is c.self.invariant.sound c.in-Some.ensures.slot c.in-Some.ensures.at c.requires in
    gives_from _ _ _ _ c.self.view_is
    (gives_free _ _ _ _ _ c.self.invariant.sound c.args.id c.in-Some.slot c.in-Some.generation
    there.0 c.in-Some.ensures.slot c.in-Some.ensures.at there.1 c.push_reserved.new.self.items c.push_reserved.ensures.items c.if-next-self.true)

pub returns-else-next-self : goal.returns-else-next-self
returns-else-next-self c =
    let there = held_at c.self.inside _ _ _ _ c.self.view_is c.self.invariant.sound c.in-Some.ensures.slot c.in-Some.ensures.at c.requires in
    gives_from _ _ _ _ c.self.view_is
    (gives_retired _ _
    _ _ _ c.self.invariant.sound c.args.id c.in-Some.slot c.in-Some.generation there.0 c.in-Some.ensures.slot c.in-Some.ensures.at there.1 c.if-next-self.false)

pub returns-in_default : goal.returns-in_default
returns-in_default c = absurd (held_somewhere c.self.inside _ _ c.self.view_is c.self.invariant.sound (c.in_default.ensures.nowhere refl) c.requires)
