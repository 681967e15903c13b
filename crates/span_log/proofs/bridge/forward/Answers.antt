use Rattle.span_registry.specs.laws.Form.{kept_form}
use Rattle.span_log.proofs.bridge.forward.Goals as goal

pub returns-in_err-message-clause-ready : goal.returns-in_err-message-clause-ready
returns-in_err-message-clause-ready g c =
    record { again = λ f ready. (f, ready, kept_form f) }

pub returns-in_err-message-clause-registered : goal.returns-in_err-message-clause-registered
returns-in_err-message-clause-registered g c = λ r h. h
