use Rattle.span_otlp.proofs.Sound.{children_below, roots_own}
use Rattle.span_otlp.proofs.laws.a_child_is_in_its_parents_trace.Goals as goal

pub returns : goal.returns
returns c = record { below = children_below; own = roots_own }
