use Rattle.std.proofs.Common.{None, Some, ap, arith, sym, ◌∙◌}
use Rattle.std.proofs.lemmas.Str.Pattern.{split_once_first}
use Rattle.span_targets.proofs.EnvMeaning.{span_absent, span_misplaced, span_there}
use Rattle.span_targets.specs.EnvText.{within_spans}
use Rattle.span_targets.proofs.env_parse.read_span.Goals as goal

pub returns-then-has_mark : goal.returns-then-has_mark
returns-then-has_mark c = span_misplaced c.args.target.now c.args.behind.now (sym c.has_mark.ensures ∙ c.if-has_mark.true)

pub returns-in_default : goal.returns-in_default
returns-in_default c =
    let none = split_once_first 93 c.args.behind.now None c.in_default.ensures.cases (omega arith) in
    span_absent c.args.target.now c.args.behind.now (sym c.has_mark.ensures ∙ c.if-has_mark.false) none

pub returns-in-Ok : goal.returns-in-Ok
returns-in-Ok c =
    let cut = split_once_first 93 c.args.behind.now (Some (c.in-Some.name, c.in-Some.rest)) c.in-Some.ensures.cases (omega arith) in
    span_there c.args.target.now c.args.behind.now
    c.in-Some.name.now c.in-Some.rest.now (sym c.has_mark.ensures ∙ c.if-has_mark.false) cut.0 cut.1 cut.2 (sym c.has_byte.ensures ∙ c.if-has_byte.false)
    ∙ ap (within_spans c.args.target.now c.in-Some.name.now) c.in-Ok.ensures

pub returns-in-Err : goal.returns-in-Err
returns-in-Err c =
    let cut = split_once_first 93 c.args.behind.now (Some (c.in-Some.name, c.in-Some.rest)) c.in-Some.ensures.cases (omega arith) in
    span_there c.args.target.now c.args.behind.now
    c.in-Some.name.now c.in-Some.rest.now (sym c.has_mark.ensures ∙ c.if-has_mark.false) cut.0 cut.1 cut.2 (sym c.has_byte.ensures ∙ c.if-has_byte.false)
    ∙ ap (within_spans c.args.target.now c.in-Some.name.now) c.in-Err.ensures
