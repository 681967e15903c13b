use Rattle.std.proofs.Common.{◌≡◌, ℕ, List, [], arith, length, sym, ap, ◌∙◌, Some, is_some, slice_get, true≢false}
use Rattle.std.specs.Ordering.{nat_cmp}
use Rattle.std.specs.FinMap.{FinMap, get, empty, get-empty, len, len-empty}
use Rattle.std.specs.List.{count_by}
use Rattle.slab.specs.Slab.{get as under}
use Rattle.span_extensions.specs.declared.extensions.ExtensionMap.{ExtensionMap}
use Rattle.span_store.specs.private.Slot.{SlotState}
use Rattle.span_store.proofs.Stored.{found_none}
use Rattle.span_store.proofs.span_store.SpanStore.new.Goals as goal

no_key : (m : FinMap nat_cmp ℕ) (x k : ℕ) → m ≡ empty → get m x ≡ Some k → ⊥
no_key m x k e is = true≢false (sym (ap is_some is) ∙ ap (λ (m : FinMap nat_cmp ℕ). is_some (get m x)) e ∙ ap is_some (get-empty nat_cmp x))

no_extensions : (es : List ExtensionMap) (k : ℕ) (e : ExtensionMap) → es ≡ [] → slice_get es k ≡ Some e → ⊥
no_extensions es k e none is = true≢false (sym (ap is_some is) ∙ ap (λ (l : List ExtensionMap). is_some (slice_get l k)) none)

pub invariant_of-result : goal.invariant_of-result
invariant_of-result c =
    let none : c.new.result.keys ≡ empty = ap (λ (s : SlotState). s.keys) c.new.ensures in
    record {
      recorded = λ x k is. absurd (no_key c.new.result.keys x k none is);
      extended = λ x k is. absurd (no_key c.new.result.keys x k none is);
      apart = λ x y k is _. absurd (no_key c.new.result.keys x k none is);
      all = ap (count_by is_some) c.new-2.ensures.empty ∙ sym (ap len none ∙ len-empty nat_cmp ℕ);
      idle = λ k e _ is. absurd (no_extensions c.new-3.result.items k e c.new-3.ensures.items is);
      covered = (let few = ap length c.new-2.ensures.empty in omega arith);
      room = (let held = ap (λ (s : SlotState). s.reserved) c.new.ensures in omega arith);
      reached = (let held = ap (λ (s : SlotState). s.reserved) c.new.ensures in omega arith);
    }

pub returns : goal.returns
returns c =
    let s = c.new.ensures in
    let none : c.new.result.keys ≡ empty = ap (λ (s : SlotState). s.keys) s in
    let records = found_none (under c.new-2.result) c.new.result.keys none in
    let extensions = found_none (slice_get c.new-3.result.items) c.new.result.keys none in
    λ i.
    record { records = records i; extensions = extensions i; issued = (s i).issued; retired = (s i).retired; reserved = (s i).reserved; limits = (s i).limits }
