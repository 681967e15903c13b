use Rattle.span_registry.proofs.Plain.{shows_plainly}
use Rattle.span_registry.proofs.laws.extensions_change_no_look_up.Goals as goal

pub returns : goal.returns
returns c = λ s lane mask. shows_plainly s lane mask
