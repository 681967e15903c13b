use Rattle.span_boxed.proofs.FilterCallerLemmas.{in_a_box}
use Rattle.span_targets_tests.proofs.env_filter.in_a_box.OwnLists.{own-1, at-1-1}
use Rattle.span_targets_tests.proofs.env_filter.in_a_box.Goals as goal

pub says-requires : goal.says-requires
says-requires g c = rw c.new-boxed.ensures (in_a_box own-1 at-1-1 (λ j f. j.1.dyn_usable f) c.into_dyn_box.ensures.1 tt)
