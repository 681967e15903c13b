-- The trace events of one point after the other.
use Rattle.std.proofs.Common.{◌≡◌, ◌∙◌, ◌<◌, ◌+◌, ◌||◌, ℕ, Bool, List, [], ◌∷◌, ◌++◌, ap, append_assoc, drop, get_or, length, sym, take}
use Rattle.std.specs.Prelude.{◌==◌}
use Rattle.std.proofs.lemmas.List.{drop_more, take_more}
use Rattle.std.proofs.lemmas.List.Folds.{list_any_more}
use Rattle.serde_json.specs.Data.{Data}
use Rattle.span_export.specs.Chrome.{events_at, events_from, is_known, naming, time_in}
use Rattle.span_export.specs.Entry.{lasting}
use Rattle.span_export.specs.Site.{Named}
use Rattle.span_export.specs.declared.entry.Entry.{Entry}
use Rattle.span_times.specs.declared.happening.Point.{Point}
use Rattle.span_times.specs.declared.kept.Table.{Table}

-- one more lane is known
pub known_more : (ps : List Point) (i : ℕ) (d : Point) (lane : ℕ)
    → i < length ps → is_known (take (i + 1) ps) lane ≡ (is_known (take i ps) lane || ((get_or ps i d).lane.0 == lane))
known_more ps i d lane within = list_any_more (λ p. p.lane.0 == lane) ps i d within

-- the events of one more point are written
pub one_more_point : (table : Table) (named : ℕ → Named) (begin : ℕ) (ps : List Point) (i : ℕ) (d : Point)
    (old mid new whole : List Data) (known : Bool) (es : List Entry) (time : ℕ)
    → i < length ps → known ≡ is_known (take i ps) (get_or ps i d).lane.0 → mid ≡ old ++ naming known (get_or ps i d).lane.0
    → es ≡ lasting (take i ps) → time ≡ time_in begin (get_or ps i d) → new ≡ mid ++ events_at table named es time (get_or ps i d)
    → old ++ events_from table named begin (take i ps) (drop i ps) ≡ whole → new ++ events_from table named begin (take (i + 1) ps) (drop (i + 1) ps) ≡ whole
one_more_point table named begin ps i d old mid new whole known es time within know first last now second so_far =
    let p = get_or ps i d in
    let before = take i ps in
    let name = naming (is_known before p.lane.0) p.lane.0 in
    let here = events_at table named (lasting before) (time_in begin p) p in
    let rest = events_from table named begin (before ++ p ∷ []) (drop (i + 1) ps) in
    let split : events_from table named begin before (drop i ps) ≡ (name ++ here) ++ rest =
    ap (events_from table named begin before) (drop_more ps i d within) in
    let shown : new ≡ (old ++ name) ++ here =
    second ∙ ap (λ t. t ++ events_at table named es time p) (first ∙ ap (λ b. old ++ naming b p.lane.0) know)
    ∙ ap (λ ys. (old ++ name) ++ events_at table named ys time p) last ∙ ap (λ n. (old ++ name) ++ events_at table named (lasting before) n p) now in
    ap (λ ys. new ++ events_from table named begin ys (drop (i + 1) ps)) (take_more ps i d within)
    ∙ ap (λ t. t ++ rest) shown
    ∙ append_assoc (old ++ name) here rest ∙ append_assoc old name (here ++ rest) ∙ ap (λ t. old ++ t) (sym (split ∙ append_assoc name here rest)) ∙ so_far
