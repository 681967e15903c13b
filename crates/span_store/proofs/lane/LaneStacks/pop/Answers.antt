use Rattle.std.proofs.Common.{◌≡◌, ◌∙◌, ap, sym, ℕ, Option, Some, None, IfSome, refl, subst}
use Rattle.std.specs.HashMap.{HashMap, Updates, get as get_value}
use Rattle.std.specs.Option.{unwrap_or}
use Rattle.std.specs.Prelude.{nat_eq}
use Rattle.span_core.specs.Span.{number_of}
use Rattle.span_core.specs.declared.span.Lane.{Lane}
use Rattle.span_store.specs.LaneStack.{HeldStack, leave, no_entries, without_entry}
use Rattle.span_store.specs.Store.{stack_on, with_stack_on}
use Rattle.span_store.specs.private.StoreRepr.{ChangesStack, KeptStacks, stacks_with}
use Rattle.span_store.proofs.LaneStacks.{first_by, no_stack, other_by, spans_alone, stacks_none}
use Rattle.span_store.proofs.lane.LaneStacks.pop.Goals as goal

popped : {H : Type 0} (first : HeldStack) (m n : HashMap ℕ HeldStack H) (t : KeptStacks) (lane : Lane) (x : ℕ) (o : Option HeldStack)
    → stacks_with first m.entries ≡ t → (lane.0 ≡ 0 → ⊥) → get_value nat_eq m lane.0 ≡ o → (o ≡ None → n.entries ≡ m.entries)
    → IfSome o (λ s. Updates nat_eq m n lane.0 (Some (without_entry x s)))
    → stacks_with first n.entries ≡ record t { stacks = with_stack_on t.stacks lane.0 (leave x (stack_on t.stacks lane.0)) }
popped first m n t lane x None is other e none some =
    ap (stacks_with first) (none refl)
    ∙ (λ i. record {
      stacks = stacks_none (stacks_with first m.entries).stacks lane.0 x (no_stack first m.entries lane.0 other e) i;
      rooms = (stacks_with first m.entries).rooms;
    })
    ∙ ap (λ (u : KeptStacks). record u { stacks = with_stack_on u.stacks lane.0 (leave x (stack_on u.stacks lane.0)) }) is
popped {H} first m n t lane x (Some s) is other e none some =
    let put : ChangesStack lane (without_entry x) m n =
    subst (λ (o : Option HeldStack). Updates nat_eq m n lane.0 (Some (without_entry x (unwrap_or o no_entries)))) (sym e) some in
    other_by (without_entry x) first m n t lane is other put ∙ spans_alone first m.entries t lane.0 (leave x (stack_on t.stacks lane.0)) is

pub returns-then-lane-eq0 : goal.returns-then-lane-eq0
returns-then-lane-eq0 c =
    let first = c.self.inside.first in
    let es = c.self.inside.others.entries in
    let t : KeptStacks = c.args.self.now in
    let k = c.args.lane.0 in
    let x = number_of c.args.id in
    ap (λ (s : HeldStack). stacks_with s es) c.pop.ensures.left
    ∙ first_by (without_entry x) first es t k c.self.view_is c.if-lane-eq0.true
    ∙ spans_alone first es t k (leave x (stack_on t.stacks k)) c.self.view_is

pub returns : goal.returns
returns c =
    let others = c.self.inside.others in
    popped c.self.inside.first others c.pop_from.new.stacks
    c.args.self.now c.args.lane (number_of c.args.id) _ c.self.view_is c.if-lane-eq0.false refl c.pop_from.ensures.none c.pop_from.ensures.some
