use Rattle.std.proofs.Common.{◌≡◌, ◌∙◌, ◌+◌, ◌++◌, ◌∷◌, [], ap, get_or, sym, take, if◌then◌else◌}
use Rattle.std.proofs.lemmas.List.{take_more}
use Rattle.span_timing.proofs.Once.{each_once_push, is_in, with_one}
use Rattle.span_timing.specs.Text.{each_once}
use Rattle.span_timing.proofs.text.each_once.Goals as goal
use Rattle.span_timing.proofs.text.each_once.Goals.{then-not-contains+in_ok-push, else-not-contains}

pub loop-number-preserved : goal.loop-number-preserved
loop-number-preserved c =
    let ns = c.args.numbers.now in
    let i = c.loop-number.number-index in
    let more : each_once (take (i + 1) ns) ≡ with_one (each_once (take i ns)) (get_or ns i 0) =
    ap each_once (take_more ns i 0 c.loop-number-test.true) ∙ each_once_push (take i ns) (get_or ns i 0) in
    let x = get_or ns i 0 in
    let once = c.loop-number.once.items in
    let found : is_in (get_or ns i 0) once ≡ c.contains.result = sym (c.contains.ensures.value ∙ ap (is_in (get_or ns i 0)) c.deref.ensures.value) in
    let whole : each_once (take (i + 1) ns) ≡ with_one once x = more ∙ ap (λ xs. with_one xs x) (sym c.loop-number.invariant) in
    elim c.if-not-contains.branch [
      | then-not-contains+in_ok-push w ↦
          ap (λ v. v.items) w.once-is ∙ w.in_ok-push.ensures.items
          ∙ sym (whole ∙ ap (λ b. if b then once else once ++ x ∷ []) (found ∙ w.if-not-contains.true))
      | else-not-contains w ↦
          ap (λ v. v.items) w.once-is ∙ sym (whole ∙ ap (λ b. if b then once else once ++ x ∷ []) (found ∙ w.if-not-contains.false))
    ]
