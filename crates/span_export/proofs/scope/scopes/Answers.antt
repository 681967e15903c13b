use Rattle.std.proofs.Common.{◌≡◌, ◌∙◌, ◌+◌, None, ℕ, List, [], ◌∷◌, ap, arith, get_or, sym, take}
use Rattle.std.proofs.lemmas.List.Sums.{fold_more}
use Rattle.span_export.specs.Scope.{opened_by, scope_of}
use Rattle.span_export.specs.private.Scopes.{scope_in}
use Rattle.span_export.proofs.scope.scopes.Goals as goal
use Rattle.span_times.specs.declared.happening.Happening.TheVariants.{Opened}
use Rattle.span_times.specs.declared.happening.Point.{Point}

pub loop-point-preserved : goal.loop-point-preserved
loop-point-preserved c =
    let ps = c.args.points.now in
    let i = c.loop-point.point-index in
    let none : Point = record { time = 0; lane = record { 0 = 0 }; what = Opened (record { number = 0 }) 0 None; fields = record { from = 0; to = 0 } } in
    let p = get_or ps i none in
    let before : scope_in c.loop-point.scopes ≡ scope_of (take i ps) = λ j x. c.loop-point.invariant x j in
    let split : scope_of (take (i + 1) ps) ≡ opened_by (scope_of (take i ps)) p.what =
    fold_more (λ scopes (p : Point). opened_by scopes p.what) (λ x. x ∷ []) ps i none (omega arith) in
    λ x. c.in_ok-note.ensures x ∙ ap (λ (f : ℕ → List ℕ). opened_by f p.what x) before ∙ sym (ap (λ (f : ℕ → List ℕ). f x) split)
