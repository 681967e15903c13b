use Rattle.std.proofs.Common.{ℕ, List, ◌++◌, take, sym, ap, ◌∙◌, take-append-drop}
use Rattle.std.proofs.lemmas.List.{take_rest}
use Rattle.span_fmt.proofs.Handed.{takes_first, takes_more}
use Rattle.span_fmt.proofs.outlet.hand.Goals as goal

pub loop-turn-init : goal.loop-turn-init
loop-turn-init g c = takes_first _ _

pub loop-turn-preserved : goal.loop-turn-preserved
loop-turn-preserved g c =
    let rest = c.loop-turn.rest.now in
    let n = c.hand_some-step.result.0 in
    takes_more _ _ _ _ rest (take n rest)
    _ c.loop-turn.invariant (sym (take-append-drop n rest) ∙ ap (λ (r : List ℕ). take n rest ++ r) (sym (take_rest rest n))) c.hand_some-step.ensures.taken
