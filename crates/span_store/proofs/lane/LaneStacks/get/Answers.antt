use Rattle.std.proofs.Common.{◌≡◌, ◌∙◌, ap, sym, Bor, Option, None, Some, [], refl}
use Rattle.std.specs.Option.{option_copied, option_map, unwrap_or}
use Rattle.span_store.specs.LaneStack.{HeldStack, no_entries}
use Rattle.span_store.specs.Store.{stack_on}
use Rattle.span_store.specs.private.StoreRepr.{KeptStacks}
use Rattle.span_store.proofs.LaneStacks.{held_first, held_other}
use Rattle.span_store.proofs.lane.LaneStacks.get.Goals as goal

spans_read : (r : Option (Bor HeldStack)) → unwrap_or (option_map (λ s. s.now.spans) r) [] ≡ (unwrap_or (option_copied r) no_entries).spans
spans_read None = refl
spans_read (Some s) = refl

pub returns-then-lane-eq0 : goal.returns-then-lane-eq0
returns-then-lane-eq0 c =
    sym (ap (λ (s : HeldStack). s.spans) (held_first c.self.inside.first c.self.inside.others.entries))
    ∙ ap (λ (t : KeptStacks). stack_on t.stacks 0) c.self.view_is
    ∙ ap (stack_on c.args.self.now.stacks) (sym c.if-lane-eq0.true)

pub returns : goal.returns
returns c =
    spans_read c.get.result
    ∙ ap (λ (o : Option HeldStack). (unwrap_or o no_entries).spans) c.get.ensures.value
    ∙ sym (ap (λ (s : HeldStack). s.spans) (held_other c.self.inside.first c.self.inside.others c.args.lane c.if-lane-eq0.false))
    ∙ ap (λ (t : KeptStacks). stack_on t.stacks c.args.lane.0) c.self.view_is
