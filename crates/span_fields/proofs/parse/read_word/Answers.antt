use Rattle.span_fields.proofs.Cuts.{named_err}
use Rattle.span_fields.proofs.parse.read_word.Goals as goal

pub returns-in-Err : goal.returns-in-Err
returns-in-Err c = named_err c.args.text.now c.levels_are_those_read.ensures c.in-Err.ensures.value
