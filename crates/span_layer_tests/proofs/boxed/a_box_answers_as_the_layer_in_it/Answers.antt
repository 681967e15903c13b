use Rattle.span_boxed.proofs.FilterCallerLemmas.{in_a_box}
use Rattle.span_layer_tests.proofs.boxed.a_box_answers_as_the_layer_in_it.OwnLists.{own-1, at-1-1}
use Rattle.span_layer_tests.proofs.boxed.a_box_answers_as_the_layer_in_it.Goals as goal

pub answers_as_under_info-requires-clause-layer : goal.answers_as_under_info-requires-clause-layer
answers_as_under_info-requires-clause-layer g c = rw c.new-layer.ensures (in_a_box own-1 at-1-1 (λ j f. j.1.dyn_usable f) c.into_dyn_box.ensures.1 (tt, tt))
