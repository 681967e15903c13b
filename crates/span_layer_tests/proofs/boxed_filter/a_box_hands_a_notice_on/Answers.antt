use Rattle.span_boxed.proofs.FilterCallerLemmas.{in_a_box}
use Rattle.span_layer_tests.proofs.boxed_filter.a_box_hands_a_notice_on.OwnLists.{own-1, at-1-1}
use Rattle.span_layer_tests.proofs.boxed_filter.a_box_hands_a_notice_on.Goals as goal

pub wants_since_entered-requires : goal.wants_since_entered-requires
wants_since_entered-requires g c = rw c.new-boxed.ensures (in_a_box own-1 at-1-1 (λ j f. j.1.dyn_usable f) c.into_dyn_box.ensures.1 tt)
