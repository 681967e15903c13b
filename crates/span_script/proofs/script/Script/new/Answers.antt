use Rattle.span_script.proofs.Growing.{IsScript-empty}
use Rattle.span_script.proofs.script.Script.new.Goals as goal

pub returns-clause-script : goal.returns-clause-script
returns-clause-script c = IsScript-empty _ c.new.ensures.items c.new-2.ensures.items c.new-3.ensures.empty
