use Rattle.span_boxed.proofs.FilterCallerLemmas.{in_a_box}
use Rattle.span_layer_tests.proofs.filter_level.a_box_passes_a_level_on.OwnLists.{own-1, at-1-1}
use Rattle.span_layer_tests.proofs.filter_level.a_box_passes_a_level_on.Goals as goal

pub takes_a_level-requires : goal.takes_a_level-requires
takes_a_level-requires g c = rw c.new-boxed.ensures (in_a_box own-1 at-1-1 (λ j f. j.1.dyn_usable f) c.into_dyn_box.ensures.1 tt)
