use Rattle.std.proofs.Common.{◌++◌, ◌∷◌, [], ap, map}
use Rattle.span_core.specs.Span.{number_of}
use Rattle.span_store.specs.Step.{Begun}
use Rattle.span_registry.proofs.CallerLemmas.{next_closing, removed_next}
use Rattle.span_examples.proofs.close_all.Goals as goal

pub loop-next-init : goal.loop-next-init
loop-next-init c = ([], Begun, ap (map number_of) c.new.ensures.items)

pub remove-next-requires : goal.remove-next-requires
remove-next-requires c = next_closing c.requires c.loop-next.invariant.1 c.in-Some.is

pub loop-next-preserved : goal.loop-next-preserved
loop-next-preserved c =
    let h = c.loop-next.invariant in
    (h.0 ++ (number_of c.in-Some.span ∷ []), removed_next h.1 c.in-Some.is c.remove-next.ensures, c.noted-closed.ensures h.0 h.2)
