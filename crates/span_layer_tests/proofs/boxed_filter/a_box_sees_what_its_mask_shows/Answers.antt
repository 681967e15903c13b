use Rattle.span_boxed.proofs.FilterCallerLemmas.{in_a_box}
use Rattle.span_layer_tests.proofs.boxed_filter.a_box_sees_what_its_mask_shows.OwnLists.{own-1, at-1-1}
use Rattle.span_layer_tests.proofs.boxed_filter.a_box_sees_what_its_mask_shows.Goals as goal

pub wants_in_what_is_shown-requires : goal.wants_in_what_is_shown-requires
wants_in_what_is_shown-requires g c = rw c.new-boxed.ensures (in_a_box own-1 at-1-1 (λ j f. j.1.dyn_usable f) c.into_dyn_box.ensures.1 tt)
