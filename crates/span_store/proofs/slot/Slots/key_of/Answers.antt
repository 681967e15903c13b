use Rattle.std.proofs.Common.{List, get_or, length, sym, ap, ◌∙◌, arith, refl}
use Rattle.std.proofs.lemmas.Bool.{ltb-true}
use Rattle.std.proofs.lemmas.Option.{slice_get_read}
use Rattle.std.specs.FinMap.{get}
use Rattle.span_core.specs.Span.{number_of}
use Rattle.span_store.specs.private.Slot.{SlotState}
use Rattle.span_store.specs.declared.slot.Slot.{Slot}
use Rattle.span_store.proofs.SlotCounts.{few_slots, key_nowhere, key_past, key_there}
use Rattle.span_store.proofs.slot.Slots.key_of.Goals as goal

pub returns-in_err-slot : goal.returns-in_err-slot
returns-in_err-slot c =
    let none = key_nowhere c.self.inside.slots.items (number_of c.args.id) (few_slots _ _ _ _ _ c.self.invariant.sound) (c.in_err-slot.ensures.nowhere refl) in
    c.from_residual.ensures ∙ sym (ap (λ (s : SlotState). get s.keys (number_of c.args.id)) (sym c.self.view_is) ∙ none)

pub returns-in_err-found : goal.returns-in_err-found
returns-in_err-found c =
    let e = ap length c.deref.ensures.value in
    let none = key_past c.self.inside.slots.items (number_of c.args.id) c.in_ok-slot.slot c.in_ok-slot.generation
    (few_slots _ _ _ _ _ c.self.invariant.sound) c.in_ok-slot.ensures.slot c.in_ok-slot.ensures.at (let m = c.in_err-found.ensures.lookup.3 in omega arith) in
    c.from_residual-in_err-found.ensures ∙ sym (ap (λ (s : SlotState). get s.keys (number_of c.args.id)) (sym c.self.view_is) ∙ none)

pub returns : goal.returns
returns c =
    let e = ap length c.deref.ensures.value in
    let l = ltb-true c.in_ok-slot.slot (length c.deref.result.now) (sym c.in_ok-found.ensures.lookup.0) in
    let found = slice_get_read c.self.inside.slots.items (length c.self.inside.slots.items) c.in_ok-slot.slot c.in_ok-found.found.now refl (omega arith)
    (c.in_ok-found.ensures.lookup.1 ∙ ap (λ (ps : List Slot). get_or ps c.in_ok-slot.slot c.in_ok-found.found.now) c.deref.ensures.value) in
    let some = key_there c.self.inside.slots.items (number_of c.args.id) c.in_ok-slot.slot
    c.in_ok-slot.generation c.in_ok-found.found.now (few_slots _ _ _ _ _ c.self.invariant.sound) c.in_ok-slot.ensures.slot c.in_ok-slot.ensures.at found in
    c.key_in.ensures ∙ sym (ap (λ (s : SlotState). get s.keys (number_of c.args.id)) (sym c.self.view_is) ∙ some)
