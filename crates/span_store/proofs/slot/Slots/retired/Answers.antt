use Rattle.std.proofs.Common.{subst}
use Rattle.span_store.specs.private.Slot.{RetiresInTime}
use Rattle.span_store.proofs.SlotCounts.{late}
use Rattle.span_store.proofs.slot.Slots.retired.Goals as goal

pub returns-clause-late : goal.returns-clause-late
returns-clause-late c = subst RetiresInTime c.self.view_is (late _ _ _ _ _ c.self.invariant.sound)
