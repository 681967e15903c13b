use Rattle.std.proofs.Common.{None, arith, subst, sym}
use Rattle.std.proofs.lemmas.Str.Pattern.{split_once_first}
use Rattle.span_targets.proofs.Meaning.{meaning_alone}
use Rattle.span_targets.proofs.read.read_directive.Goals as goal
use Rattle.span_targets.specs.private.Take.{ReadsOne}

pub returns-in-None : goal.returns-in-None
returns-in-None c =
    let none = split_once_first 61 c.args.text.now None c.in-None.ensures.cases (omega arith) in
    subst (λ m. ReadsOne m c.read_alone.result) (sym (meaning_alone c.args.text.now none)) c.read_alone.ensures
