use Rattle.std.proofs.Common.{◌≡◌, ◌+◌, None, Some, arith, rules}
use Rattle.std.proofs.lemmas.Result.{on_ok_weaker}
use Rattle.std.proofs.lemmas.Str.Pattern.{split_once_first}
use Rattle.span_targets.proofs.Reading.{split_last, split_more}
use Rattle.span_targets.proofs.Takes.{names_end, names_last, names_on, wrong_end, wrong_last, wrong_on}
use Rattle.span_targets.proofs.targets.Targets.take_all.Goals as goal
use Rattle.span_targets.specs.Targets.{names_of}
use Rattle.span_targets.specs.declared.parse.TheConstants.{MAX_DIRECTIVES}

pub returns-in-None : goal.returns-in-None
returns-in-None c =
    let l = c.loop-index in
    let s = l.rest.now in
    let none = split_once_first 44 s None c.in-None.ensures.cases (omega arith) in
    let parts = split_last s none in
    on_ok_weaker c.take-in-None.result
    (λ h. record {
      names = names_last (l.index + 1) s l.self c.take-in-None.new.self l.wrong.items c.take-in-None.new.wrong.items _ (omega arith) parts h l.invariant.names;
      wrong = wrong_last (l.index + 1) s l.self c.take-in-None.new.self l.wrong.items c.take-in-None.new.wrong.items _ (omega arith) parts h l.invariant.wrong;
    })
    c.take-in-None.ensures

pub loop-index-preserved : goal.loop-index-preserved
loop-index-preserved c =
    let l = c.loop-index in
    let s = l.rest.now in
    let first = c.in-Some.first in
    let later = c.in-Some.later in
    let cut = split_once_first 44 s (Some (first, later)) c.in-Some.ensures.cases (omega arith) in
    let parts = split_more s first.now later.now cut.0 cut.1 cut.2 in
    let h = c.in_ok-take-in-Some.ensures in
    record {
      text = search rules;
      names = names_on (l.index + 1)
          s first.now later.now l.self c.take.new.self l.wrong.items c.take.new.wrong.items _ (omega (arith, c.loop-index-test.true)) parts h l.invariant.names;
      wrong = wrong_on (l.index + 1)
          s first.now later.now l.self c.take.new.self l.wrong.items c.take.new.wrong.items _ (omega (arith, c.loop-index-test.true)) parts h l.invariant.wrong;
    }

pub returns : goal.returns
returns c =
    let l = c.loop-index in
    let n : l.index + 1 ≡ MAX_DIRECTIVES + 1 = omega (arith, c.loop-index-test.false, l.auto.index-end) in
    record {
      names = names_end (l.index + 1) l.rest.now (names_of l.self) _ (omega arith) l.invariant.names;
      wrong = wrong_end (l.index + 1) l.rest.now l.wrong.items c.push.new.self.items _ n c.in_ok-push.ensures.items l.invariant.wrong;
    }
