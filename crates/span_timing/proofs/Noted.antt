-- Lives and events of one more point.
use Rattle.std.proofs.Common.{◌≡◌, ◌∙◌, ◌<◌, ◌+◌, ℕ, List, [], ◌∷◌, ◌++◌, Option, None, Some, ap, append_assoc, append-nil, get_or, length, refl, subst, sym}
use Rattle.std.proofs.Common.{take}
use Rattle.std.proofs.lemmas.List.{take_more}
use Rattle.std.proofs.lemmas.List.Elements.{filter_map-append}
use Rattle.std.specs.List.{cons_option}
use Rattle.std.specs.Option.{option_to_list}
use Rattle.span_timing.specs.Life.{event_sent, events_of, life_ended, lives_from, lives_of}
use Rattle.span_timing.specs.Timing.{IsTimingOf}
use Rattle.span_timing.specs.declared.life.Life.{Life}
use Rattle.span_timing.specs.declared.timing.Timing.{Timing}
use Rattle.span_times.specs.declared.happening.Point.{Point}

lives_push : (before ps : List Point) (p : Point)
    → lives_from before (ps ++ p ∷ []) ≡ lives_from before ps ++ option_to_list (life_ended (before ++ (ps ++ p ∷ [])) p.what)
lives_push before [] p = append-nil (option_to_list (life_ended (before ++ p ∷ []) p.what))
lives_push before (q ∷ ps) p =
    let first = option_to_list (life_ended (before ++ q ∷ []) q.what) in
    ap (λ ls. first ++ ls) (lives_push (before ++ q ∷ []) ps p)
    ∙ ap (λ qs. first ++ (lives_from (before ++ q ∷ []) ps ++ option_to_list (life_ended qs p.what))) (append_assoc before (q ∷ []) (ps ++ p ∷ []))
    ∙ sym (append_assoc first (lives_from (before ++ q ∷ []) ps) (option_to_list (life_ended (before ++ (q ∷ ps ++ p ∷ [])) p.what)))

-- the life that one more point ends, if it ends one, is behind the others
pub lives_more : (ps : List Point) (i : ℕ) (d : Point) → i < length ps
    → lives_of (take (i + 1) ps) ≡ lives_of (take i ps) ++ option_to_list (life_ended (take (i + 1) ps) (get_or ps i d).what)
lives_more ps i d within =
    let more = take_more ps i d within in
    ap lives_of more ∙ lives_push [] (take i ps) (get_or ps i d)
    ∙ ap (λ qs. lives_of (take i ps) ++ option_to_list (life_ended qs (get_or ps i d).what)) (sym more)

one_event : (o : Option ℕ) → cons_option o [] ≡ option_to_list o
one_event None = refl
one_event (Some n) = refl

-- the event of one more point, if it is one, is behind the others
pub events_more : (ps : List Point) (i : ℕ) (d : Point) → i < length ps
    → events_of (take (i + 1) ps) ≡ events_of (take i ps) ++ option_to_list (event_sent (get_or ps i d).what)
events_more ps i d within =
    ap events_of (take_more ps i d within) ∙ filter_map-append (λ (p : Point). event_sent p.what) (take i ps) (get_or ps i d ∷ [])
    ∙ ap (λ es. events_of (take i ps) ++ es) (one_event (event_sent (get_or ps i d).what))

-- what is noted behind others is noted behind all
pub noted_behind : (lives some more whole : List Life) (sent few later all : List ℕ) (t : Timing)
    → whole ≡ some ++ more → all ≡ few ++ later → IsTimingOf ((lives ++ some) ++ more) ((sent ++ few) ++ later) t → IsTimingOf (lives ++ whole) (sent ++ all) t
noted_behind lives some more whole sent few later all t same also was =
    let P : List Life → Type 0 = λ ls. IsTimingOf ls ((sent ++ few) ++ later) t in
    let Q : List ℕ → Type 0 = λ es. IsTimingOf (lives ++ whole) es t in
    subst Q (append_assoc sent few later ∙ ap (λ es. sent ++ es) (sym also))
    (subst P (append_assoc lives some more ∙ ap (λ ls. lives ++ ls) (sym same)) was)
