use Rattle.span_boxed.proofs.FilterCallerLemmas.{in_a_box}
use Rattle.span_layer_tests.proofs.boxed_filter.a_chain_with_a_box_in_it.OwnLists.{own-1, at-1-1}
use Rattle.span_layer_tests.proofs.boxed_filter.a_chain_with_a_box_in_it.Goals as goal

pub wants_errors_and_debug-requires : goal.wants_errors_and_debug-requires
wants_errors_and_debug-requires g c = rw (c.or-chain.ensures.first, c.and.ensures.first, c.not.ensures, c.new-2.ensures)
    ((in_a_box own-1 at-1-1 (λ j f. j.1.dyn_usable f) c.into_dyn_box.ensures.1 tt, tt), tt)
