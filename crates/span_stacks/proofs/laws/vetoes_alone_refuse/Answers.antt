use Rattle.span_stacks.proofs.Pass.{asked_unless_vetoed, event_unless_vetoed}
use Rattle.span_stacks.proofs.laws.vetoes_alone_refuse.Goals as goal

pub returns-clause-metadata : goal.returns-clause-metadata
returns-clause-metadata c = asked_unless_vetoed

pub returns-clause-event : goal.returns-clause-event
returns-clause-event c = event_unless_vetoed
