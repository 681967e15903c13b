use Rattle.std.proofs.Common.{◌≡◌, ◌∙◌, ◌++◌, ◌∷◌, [], ℕ, IfOk, List, ap, flat_map, string_bytes, subst}
use Rattle.std.specs.Option.{option_map_or}
use Rattle.span_timing.specs.Layout.{laid_out}
use Rattle.span_timing.specs.Text.{callsites_in, event_lines, event_words, lines_of, span_lines, span_words}
use Rattle.span_timing.specs.Timing.{events_at, row_at}
use Rattle.span_timing.specs.private.Cells.{lines_in}
use Rattle.span_timing.proofs.text.timing_text.Goals as goal

pub returns : goal.returns
returns c =
    let t = c.args.timing.now in
    let sites = c.args.sites.now in
    let all = callsites_in t sites in
    let spans : List ℕ → List (List (List ℕ)) = λ ns. flat_map (λ n. option_map_or (span_lines sites n) (row_at n t) []) ns in
    let events : List ℕ → List (List (List ℕ)) = λ ns. flat_map (λ n. event_lines sites n (events_at n t)) ns in
    let first : lines_in c.push_spans.new.lines.items ≡ span_words ∷ spans all =
    c.in_ok-push_spans.ensures ∙ ap (λ lines. lines_in lines ++ span_words ∷ spans c.deref.result.now) c.new-lines.ensures.items
    ∙ ap (λ ns. span_words ∷ spans ns) (c.deref.ensures.value ∙ c.in_ok-callsites.ensures) in
    let lines : lines_in c.push_events.new.lines.items ≡ lines_of t sites all =
    c.in_ok-push_events.ensures ∙ ap (λ lines. lines ++ event_words ∷ events c.deref-2.result.now) first
    ∙ ap (λ ns. (span_words ∷ spans all) ++ event_words ∷ events ns) (c.deref-2.ensures.value ∙ c.in_ok-callsites.ensures) in
    let P : List (List (List ℕ)) → Type 0 = λ ls. IfOk c.laid_out.result (λ text. string_bytes text ≡ laid_out ls) in
    subst P (ap lines_in c.deref-3.ensures.value ∙ lines) c.laid_out.ensures
