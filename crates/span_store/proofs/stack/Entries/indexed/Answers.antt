use Rattle.std.proofs.Common.{◌∙◌, ap}
use Rattle.std.proofs.lemmas.Option.{IfSome_then}
use Rattle.span_core.specs.Span.{number_of}
use Rattle.span_store.specs.LaneStack.{HeldStack, stands}
use Rattle.span_store.specs.private.Marks.{ids_down}
use Rattle.span_store.proofs.stack.Entries.indexed.Goals as goal

pub returns : goal.returns
returns c =
    IfSome_then c.holds.result c.holds.ensures
    (λ b is. is (ids_down c.self.inside.entries.items) c.self.invariant.2 ∙ ap (λ (s : HeldStack). stands (number_of c.args.id) s.spans) c.self.view_is)
