use Rattle.span_boxed.proofs.FilterCallerLemmas.{in_a_box}
use Rattle.span_layer_tests.proofs.boxed.marks_of_a_box.OwnLists.{own-1, at-1-1}
use Rattle.span_layer_tests.proofs.boxed.marks_of_a_box.Goals as goal

pub marks_under-requires-clause-layer : goal.marks_under-requires-clause-layer
marks_under-requires-clause-layer c = rw c.new-layer.ensures (in_a_box own-1 at-1-1 (λ j f. j.1.dyn_usable f) c.into_dyn_box.ensures.1 tt)
