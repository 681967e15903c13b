-- For the proofs of callers: that a dispatcher is ready again after several calls, or after none.
use Rattle.span_dispatch.specs.Contract.{StaysReady, SubscriberOf}
use Rattle.span_dispatch.specs.declared.dispatch.Dispatch.{Dispatch}
use Rattle.span_dispatch.proofs.Goes.{keeps_again}
use Rattle.span_registry.specs.laws.Form.{kept_form}

module _ {S : Type 0} (s : SubscriberOf S) where
  -- one that nothing is done to
  pub ready_still : (d : Dispatch S) → StaysReady s d d
  ready_still d = record { again = λ f ready. (f, ready, kept_form f) }

  -- after two steps
  pub ready_after : (old between new : Dispatch S) → StaysReady s old between → StaysReady s between new → StaysReady s old new
  ready_after old between new first last = record {
    again = λ f ready.
        let mid = first.again f ready in
        let end = last.again mid.0 mid.1 in
        (end.0, end.1, keeps_again f mid.0 end.0 mid.2 end.2);
  }
