use Rattle.std.proofs.Common.{◌∙◌, ap, List, ℕ}
use Rattle.span_store.specs.LaneStack.{HeldStack, no_entries}
use Rattle.span_store.specs.private.StoreRepr.{stacks_with}
use Rattle.span_store.proofs.LaneStacks.{none_held}
use Rattle.span_store.proofs.lane.LaneStacks.new.Goals as goal

pub returns : goal.returns
returns c =
    ap (λ (s : HeldStack). stacks_with s c.with_hasher.result.entries) c.new.ensures
    ∙ ap (λ (es : List (ℕ × HeldStack)). stacks_with no_entries es) c.with_hasher.ensures.empty
    ∙ none_held
