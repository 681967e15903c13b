use Rattle.std.specs.Prelude.{⊤}
use Rattle.span_boxed.proofs.FilterCallerLemmas.{in_a_box}
use Rattle.span_client_tests.proofs.Optional.{if_some_of_all}
use Rattle.span_client_tests.proofs.receiver.a_receiver_of_five.OwnLists.{own-1, at-1-1}
use Rattle.span_client_tests.proofs.receiver.a_receiver_of_five.Goals as goal

pub in_use_counts_three-requires-clause-layer : goal.in_use_counts_three-requires-clause-layer
in_use_counts_three-requires-clause-layer g c = (
  tt,
  (
    rw c.and_then-layers.ensures.below
        (rw c.and_then-3.ensures.layer (rw c.new-4.ensures (in_a_box own-1 at-1-1 (λ j x. j.1.dyn_usable x) c.into_dyn_box.ensures.1 tt))),
    (if_some_of_all (λ x. ⊤ × ⊤) (λ x. (tt, tt)) _, ((λ k x h. (tt, tt)), tt)),
  ),
)
