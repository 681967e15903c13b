use Rattle.span_boxed.proofs.FilterCallerLemmas.{in_a_box}
use Rattle.span_layer_tests.proofs.boxed.a_box_hands_everything_on.OwnLists.{own-1, at-1-1}
use Rattle.span_layer_tests.proofs.boxed.a_box_hands_everything_on.Goals as goal

pub signs_once_in_use-requires : goal.signs_once_in_use-requires
signs_once_in_use-requires g c = rw c.new-layer.ensures (in_a_box own-1 at-1-1 (λ j f. j.1.dyn_usable f) c.into_dyn_box.ensures.1 tt)
