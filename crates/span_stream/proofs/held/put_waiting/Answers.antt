use Rattle.std.proofs.Common.{◌≡◌, ◌∙◌, ◌+◌, ◌-◌, ℕ, [], ◌∷◌, ap, arith, sym, take}
use Rattle.serde_json.proofs.Views.{Entry}
use Rattle.serde_json.specs.View.{members_view}
use Rattle.span_stream.proofs.Holding.{waiting_back}
use Rattle.span_stream.specs.Held.{with_waiting}
use Rattle.span_stream.proofs.held.put_waiting.Goals as goal

pub loop-place-preserved : goal.loop-place-preserved
loop-place-preserved c =
    let es = c.args.waiting.now in
    let i = c.loop-place.place - 1 in
    let was = members_view c.loop-place.members.entries in
    let next : i + 1 ≡ c.loop-place.place = omega arith in
    ap (with_waiting (take i es)) (c.in_ok-put_copy.ensures ∙ ap (λ (e : Entry). with_waiting (e ∷ []) was) c.index-waiting-place.is)
    ∙ sym (waiting_back es i c.index-waiting-place.result was (omega arith)) ∙ ap (λ (k : ℕ). with_waiting (take k es) was) next
    ∙ c.loop-place.invariant
