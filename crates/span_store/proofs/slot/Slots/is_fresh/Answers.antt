use Rattle.std.proofs.Common.{◌≡◌, List, [], ◌∷◌, length, refl, subst, sym, ap, ◌∙◌, arith}
use Rattle.std.proofs.lemmas.Bool.{eqb-true, eq-eqb}
use Rattle.std.specs.FinMap.{from_entries}
use Rattle.std.specs.FinSet.{from_list, len as set_len}
use Rattle.std.specs.Prelude.{vec_len}
use Rattle.span_store.specs.private.Slot.{AreUnused, SlotState, held_from, issued_from, slots_of}
use Rattle.span_store.specs.declared.slot.Slot.{Slot}
use Rattle.span_store.proofs.SlotCounts.{no_slots_yet, none_issued}
use Rattle.span_store.proofs.slot.Slots.is_fresh.Goals as goal

none_in : (ps : List Slot) → length ps ≡ 0 → ps ≡ []
none_in [] e = refl
none_in (p ∷ ps) e = absurd (omega arith)

pub returns-clause-issued : goal.returns-clause-issued
returns-clause-issued c =
    let h = c.is_empty.ensures in
    let at = ap (λ (s : SlotState). set_len s.issued) c.self.view_is in (
      λ e. sym at ∙ none_issued _ _ _ _ _ c.self.invariant.sound (let z = eqb-true (vec_len c.self.inside.slots) 0 (sym h ∙ e) in omega arith),
      λ e. h ∙ eq-eqb (vec_len c.self.inside.slots) 0 (let z = no_slots_yet _ _ _ _ _ c.self.invariant.sound (at ∙ e) in omega arith),
    )

pub returns-clause-unused : goal.returns-clause-unused
returns-clause-unused c e =
    let z = eqb-true (vec_len c.self.inside.slots) 0 (sym c.is_empty.ensures ∙ e) in
    let none = none_in c.self.inside.slots.items (omega arith) in
    let unused : AreUnused (slots_of c.self.inside) =
    record { keys = ap (λ (ps : List Slot). from_entries (held_from 0 ps)) none; issued = ap (λ (ps : List Slot). from_list (issued_from 0 ps)) none } in
    subst AreUnused c.self.view_is unused
