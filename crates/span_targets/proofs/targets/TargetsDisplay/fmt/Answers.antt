use Rattle.std.proofs.Common.{◌≡◌, ◌∙◌, ◌+◌, ◌++◌, ◌<◌, [], sym, ap, arith, get_or, length, refl, rules, take}
use Rattle.std.proofs.Math.Seq.{take-length}
use Rattle.std.proofs.Output.{has_written_append, has_written_of_eq}
use Rattle.span_targets.proofs.Written.{after, after_more, run, run_more, written_all, written_last}
use Rattle.span_targets.proofs.targets.TargetsDisplay.fmt.Goals as goal
use Rattle.span_targets.specs.Directive.{directive_text}

pub loop-directive-preserved : goal.loop-directive-preserved
loop-directive-preserved g c =
    let l = c.loop-directive in
    let ds = c.args.self.now.directives.items in
    let d = c.directive-item.result in
    let at : d ≡ get_or ds l.directive-index d = search rules in
    let below : l.directive-index < length ds = omega (arith, c.loop-directive-test.true, ap length c.deref-directive-items.ensures.value) in
    let more : run [] (take l.directive-index ds) ++ (l.between.now ++ directive_text d) ≡ run [] (take (l.directive-index + 1) ds) =
    (λ i. run [] (take l.directive-index ds) ++ (l.invariant.between i ++ directive_text (at i))) ∙ run_more [] ds l.directive-index d below in
    record {
      text = search rules;
      between = sym (after_more [] ds l.directive-index below);
      written = λ plain.
          let before = l.invariant.written plain in
          has_written_of_eq _ _ _ _ _ more (has_written_append _ _ _ _ _ _ before (c.in_ok-write.ensures.writes before.plain refl));
    }

pub returns-in-Some-clause-writes : goal.returns-in-Some-clause-writes
returns-in-Some-clause-writes g c plain ok =
    let l = c.loop-directive in
    let ds = c.args.self.now.directives.items in
    let all : l.directive-index ≡ length ds =
    omega (arith, c.loop-directive-test.false, l.auto.directive-index-end, ap length c.deref-directive-items.ensures.value) in
    let whole : take l.directive-index ds ≡ ds = ap (λ n. take n ds) all ∙ take-length ds in
    let before = l.invariant.written plain in
    has_written_of_eq _ _ _ _ _
    ((λ i. run [] (whole i) ++ ((l.invariant.between ∙ ap (after []) whole) i ++ c.level_word-word.ensures i))
    ∙ written_last ds c.args.self.now.default c.in-Some.level c.in-Some.is)
    (has_written_append _ _ _ _ _ _ before (c.write-in-Some.ensures.writes before.plain ok))

pub returns-in-None-2-clause-writes : goal.returns-in-None-2-clause-writes
returns-in-None-2-clause-writes g c plain ok =
    let l = c.loop-directive in
    let ds = c.args.self.now.directives.items in
    let all : l.directive-index ≡ length ds =
    omega (arith, c.loop-directive-test.false, l.auto.directive-index-end, ap length c.deref-directive-items.ensures.value) in
    let whole : take l.directive-index ds ≡ ds = ap (λ n. take n ds) all ∙ take-length ds in
    has_written_of_eq _ _ _ _ _
    (ap (run []) whole ∙ written_all ds c.args.self.now.default l.between.now c.in-None-2.is (l.invariant.between ∙ ap (after []) whole) c.if-is_empty.ensures)
    (l.invariant.written plain)
