use Rattle.std.proofs.Common.{◌≡◌, ◌∙◌, ap, length, take, arith}
use Rattle.std.proofs.Math.Seq.{take-length}
use Rattle.span_targets.proofs.Takes.{grown, on_err, same_names}
use Rattle.span_targets.proofs.targets.Targets.extend.Goals as goal
use Rattle.span_targets.specs.Names.{naming_each}
use Rattle.span_targets.specs.Targets.{names_of}

pub loop-target-preserved : goal.loop-target-preserved
loop-target-preserved c =
    let l = c.loop-target in
    grown c.args.targets.now
    l.target-index _ (names_of c.args.self.now) (names_of l.self) (names_of c.add.new.self) c.loop-target-test.true c.in_ok-add.ensures.ok l.invariant

pub returns-clause-ok : goal.returns-clause-ok
returns-clause-ok c =
    let l = c.loop-target in
    let xs = c.args.targets.now in
    let all : l.target-index ≡ length xs = omega (arith, c.loop-target-test.false, l.auto.target-index-end) in
    l.invariant ∙ ap (λ n. naming_each (take n xs) (names_of c.args.self.now)) all ∙ ap (λ ys. naming_each ys (names_of c.args.self.now)) (take-length xs)

pub returns-in_err-add-clause-err : goal.returns-in_err-add-clause-err
returns-in_err-add-clause-err c =
    let l = c.loop-target in
    on_err c.from_residual.result (l.target-index, same_names c.add.new.self l.self c.in_err-add.ensures.err ∙ l.invariant)
