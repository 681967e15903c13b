use Rattle.std.proofs.Common.{None, Some, ap, arith, ◌∙◌}
use Rattle.std.proofs.lemmas.Str.Pattern.{split_once_first}
use Rattle.span_targets.proofs.EnvMeaning.{either_spans, either_targets}
use Rattle.span_targets.specs.EnvText.{of_spans, of_targets}
use Rattle.span_targets.proofs.env_parse.read_either.Goals as goal

pub returns-in-Ok : goal.returns-in-Ok
returns-in-Ok c =
    let cut = split_once_first 91 c.args.text.now (Some (c.in-Some.target, c.in-Some.behind)) c.in-Some.ensures.cases (omega arith) in
    either_spans c.args.text.now c.in-Some.target.now c.in-Some.behind.now cut.0 cut.1 cut.2 ∙ ap of_spans c.in-Ok.ensures

pub returns-in-Err : goal.returns-in-Err
returns-in-Err c =
    let cut = split_once_first 91 c.args.text.now (Some (c.in-Some.target, c.in-Some.behind)) c.in-Some.ensures.cases (omega arith) in
    either_spans c.args.text.now c.in-Some.target.now c.in-Some.behind.now cut.0 cut.1 cut.2 ∙ ap of_spans c.in-Err.ensures

pub returns-in-Ok-read_directive : goal.returns-in-Ok-read_directive
returns-in-Ok-read_directive c =
    let none = split_once_first 91 c.args.text.now None c.in-None.ensures.cases (omega arith) in
    either_targets c.args.text.now none ∙ ap of_targets c.in-Ok-read_directive.ensures

pub returns-in-Err-read_directive : goal.returns-in-Err-read_directive
returns-in-Err-read_directive c =
    let none = split_once_first 91 c.args.text.now None c.in-None.ensures.cases (omega arith) in
    either_targets c.args.text.now none ∙ ap of_targets c.in-Err-read_directive.ensures
