use Rattle.std.proofs.Common.{arith, ◌≡◌, ◌∙◌, ◌++◌, ◌∷◌, [], ℕ, List, ap, append_assoc, map, string_bytes, take}
use Rattle.std.proofs.lemmas.List.{map-append, take_all}
use Rattle.span_timing.specs.Histogram.{most_in, quantile_in}
use Rattle.span_timing.specs.Unit.{time_text}
use Rattle.span_timing.specs.private.Cells.{cells_in}
use Rattle.span_timing.proofs.text.push_times.Goals as goal

pub returns : goal.returns
returns c =
    let percents : List ℕ = 50 ∷ 90 ∷ 99 ∷ [] in
    let quantile : ℕ → List ℕ = λ percent. time_text (quantile_in percent 100 c.args.times.now) in
    let so_far = c.loop-percent.line.items in
    let old = cells_in c.args.line.now.items in
    let most = time_text (most_in c.args.times.now) in
    let text = c.in_ok-time_text-2.field-0 in
    let all : take c.loop-percent.percent-index percents ≡ percents = take_all c.loop-percent.percent-index percents (omega arith) in
    let pushed : cells_in c.push-2.new.self.items ≡ cells_in so_far ++ string_bytes text ∷ [] =
    ap cells_in c.in_ok-push-3.ensures.items ∙ map-append string_bytes so_far (text ∷ []) in
    let spelled : string_bytes text ≡ most = c.in_ok-time_text-2.ensures ∙ ap time_text c.most.ensures in
    pushed ∙ ap (λ bs. cells_in so_far ++ bs ∷ []) spelled
    ∙ ap (λ cells. cells ++ most ∷ []) (c.loop-percent.invariant ∙ ap (λ ns. (old ++ c.args.part.now ∷ []) ++ map quantile ns) all)
    ∙ append_assoc (old ++ c.args.part.now ∷ []) (map quantile percents) (most ∷ [])
    ∙ append_assoc old (c.args.part.now ∷ []) (map quantile percents ++ most ∷ [])
