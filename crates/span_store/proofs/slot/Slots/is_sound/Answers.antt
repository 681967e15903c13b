use Rattle.std.proofs.Common.{subst}
use Rattle.span_store.specs.private.Slot.{AreHeldIssued}
use Rattle.span_store.proofs.SlotCounts.{few_slots, held_issued}
use Rattle.span_store.proofs.slot.Slots.is_sound.Goals as goal

pub returns : goal.returns
returns c = subst AreHeldIssued c.self.view_is (λ x. held_issued c.self.inside.slots.items x (few_slots _ _ _ _ _ c.self.invariant.sound))
