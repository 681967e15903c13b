use Rattle.span_boxed.proofs.FilterCallerLemmas.{in_a_box}
use Rattle.span_layer_tests.proofs.boxed_filter.a_boxed_chain_answers_as_the_chain.OwnLists.{own-1, at-1-1}
use Rattle.span_layer_tests.proofs.boxed_filter.a_boxed_chain_answers_as_the_chain.Goals as goal

pub wants_two_levels-requires-2 : goal.wants_two_levels-requires-2
wants_two_levels-requires-2 g c = rw c.new-boxed.ensures (in_a_box own-1 at-1-1 (λ j f. j.1.dyn_usable f) c.into_dyn_box.ensures.1 ((tt, tt), tt))
