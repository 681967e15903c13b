use Rattle.span_stacks.proofs.Pass.{event_fresh, new_span_fresh, others_afresh}
use Rattle.span_stacks.proofs.laws.the_pass_is_fresh.Goals as goal

pub returns-clause-new_span : goal.returns-clause-new_span
returns-clause-new_span c = new_span_fresh

pub returns-clause-event : goal.returns-clause-event
returns-clause-event c = event_fresh

pub returns-clause-others : goal.returns-clause-others
returns-clause-others c = others_afresh
