use Rattle.std.proofs.Common.{◌∙◌, ap}
use Rattle.span_core.specs.Span.{number_of}
use Rattle.span_store.specs.LaneStack.{HeldStack, stands}
use Rattle.span_store.proofs.Marks.{stands_up}
use Rattle.span_store.proofs.stack.Entries.may_hold.Goals as goal

pub returns : goal.returns
returns c = λ on.
    let x = number_of c.args.id in
    c.may_hold.ensures.1 (c.self.invariant.0.held x (stands_up x c.self.inside.entries.items (ap (λ (s : HeldStack). stands x s.spans) c.self.view_is ∙ on)))
