use Rattle.std.proofs.lemmas.Str.Pattern.{split_once_first}
use Rattle.span_fields.proofs.Cuts.{cut_there}
use Rattle.span_fields.proofs.parse.cut.Goals as goal

pub returns : goal.returns
returns c = cut_there c.args.byte
    c.args.text.now c.split_once.result (split_once_first c.args.byte c.args.text.now c.split_once.result c.split_once.ensures.cases c.requires)
