use Rattle.std.proofs.Common.{MatchBool, inl, inr, sym, ◌∙◌, subst, leb, true≢false, arith}
use Rattle.std.proofs.lemmas.Bool.{leb-true, leb-false, eqb-true, eqb-false}
use Rattle.std.specs.Prelude.{vec_len}
use Rattle.span_store.specs.private.Slot.{SlotState, HasSlot, HasNoSlot}
use Rattle.span_store.proofs.SlotCounts.{full_by}
use Rattle.span_store.proofs.slot.Slots.are_full.Goals as goal

pub returns-then-is_empty : goal.returns-then-is_empty
returns-then-is_empty c =
    let z = eqb-true (vec_len c.self.inside.free) 0 (sym c.if-is_empty.ensures) in
    let k = c.len.ensures in
    let f = c.from.ensures in
    subst (λ (s : SlotState). MatchBool (leb c.from.result c.len.result) (HasNoSlot s) (HasSlot s)) c.self.view_is
    (full_by _ _ _ _ _ _ c.self.invariant.sound (leb c.from.result c.len.result)
    (λ e. (omega arith, (let l = leb-true c.from.result c.len.result e in omega arith)))
    (λ e. inr (let l = leb-false c.from.result c.len.result e in omega arith)))

pub returns-else-is_empty : goal.returns-else-is_empty
returns-else-is_empty c =
    let z = eqb-false (vec_len c.self.inside.free) 0 (sym c.is_empty.ensures ∙ c.if-is_empty.false) in
    subst (λ (s : SlotState). MatchBool c.is_empty.result (HasNoSlot s) (HasSlot s)) c.self.view_is
    (full_by _ _ _ _ _ _ c.self.invariant.sound c.is_empty.result
    (λ e. absurd (true≢false (sym e ∙ c.if-is_empty.false)))
    (λ e. inl (omega arith)))
