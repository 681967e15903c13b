use Rattle.std.proofs.Common.{◌≡◌, ◌∙◌, None, Some, ap, sym}
use Rattle.span_otlp.proofs.Parents.{read_complete, read_sound}
use Rattle.span_otlp.proofs.trace_parent.TraceParentFromStr.from_str.Goals as goal
use Rattle.span_otlp.specs.private.Reading.{parent_in}

pub returns-in-Some : goal.returns-in-Some
returns-in-Some c =
    let found : Some c.in-Some.parent ≡ parent_in c.args.text.now = c.in-Some.ensures ∙ ap parent_in c.as_bytes.ensures.value in
    read_sound c.args.text.now c.in-Some.parent (sym found)

pub returns-in-None : goal.returns-in-None
returns-in-None c p spells =
    let none : None ≡ parent_in c.args.text.now = c.in-None.ensures ∙ ap parent_in c.as_bytes.ensures.value in
    let some = read_complete c.args.text.now p spells in
    cc (none ∙ some)
