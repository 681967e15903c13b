use Rattle.std.proofs.Common.{◌≡◌, ◌+◌, None, Some, arith, rules}
use Rattle.std.proofs.lemmas.Str.Pattern.{split_once_first}
use Rattle.span_targets.proofs.EnvMeaning.{first_taken, first_wrong, last_taken, too_many}
use Rattle.span_targets.proofs.Reading.{split_last, split_more}
use Rattle.span_targets.specs.Text.{directives_in}
use Rattle.span_targets.specs.declared.parse.TheConstants.{MAX_DIRECTIVES}
use Rattle.span_targets.proofs.env_filter.EnvFilter.take_all.Goals as goal

pub returns-in_default : goal.returns-in_default
returns-in_default c =
    let l = c.loop-index in
    let none = split_once_first 44 l.rest.now None c.in_default.ensures.cases (omega arith) in
    last_taken (l.index + 1) l.rest.now l.self c.take.new.self _ (omega (arith, c.loop-index-test.true)) (split_last l.rest.now none) l.invariant.read
    c.take.result c.take.ensures

pub returns-in-Err : goal.returns-in-Err
returns-in-Err c =
    let l = c.loop-index in
    let cut = split_once_first 44 l.rest.now (Some (c.in-Some.first, c.in-Some.later)) c.in-Some.ensures.cases (omega arith) in
    let parts = split_more l.rest.now c.in-Some.first.now c.in-Some.later.now cut.0 cut.1 cut.2 in
    first_wrong (l.index + 1) c.in-Some.first.now (directives_in c.in-Some.later.now) l.rest.now l.self c.take-in-loop-index.new.self _
    (omega (arith, c.loop-index-test.true)) parts l.invariant.read c.in-Err.error c.in-Err.ensures

pub loop-index-preserved : goal.loop-index-preserved
loop-index-preserved c =
    let l = c.loop-index in
    let cut = split_once_first 44 l.rest.now (Some (c.in-Some.first, c.in-Some.later)) c.in-Some.ensures.cases (omega arith) in
    let parts = split_more l.rest.now c.in-Some.first.now c.in-Some.later.now cut.0 cut.1 cut.2 in
    record {
      text = search rules;
      read = first_taken (l.index + 1) c.in-Some.first.now (directives_in c.in-Some.later.now) l.rest.now l.self c.take-in-loop-index.new.self _
          (omega (arith, c.loop-index-test.true)) parts l.invariant.read c.in_default-take.ensures;
    }

pub returns : goal.returns
returns c =
    let l = c.loop-index in
    let n : l.index + 1 ≡ MAX_DIRECTIVES + 1 = omega (arith, c.loop-index-test.false, l.auto.index-end) in
    too_many (l.index + 1) l.rest.now l.self _ n l.invariant.read
