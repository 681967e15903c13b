-- Sums of points, one point after the other.
use Rattle.std.proofs.Common.{◌≡◌, ◌≢◌, ◌∙◌, ◌<◌, ◌+◌, ℕ, List, [], ◌∷◌, ◌++◌, ap, drop, get_or, length, refl, sym, take, if◌then◌else◌, ◌==◌}
use Rattle.std.proofs.lemmas.List.{drop_more, take_more}
use Rattle.std.proofs.lemmas.List.Sums.{fold_more}
use Rattle.span_export.specs.Entry.{entries_after, lasting}
use Rattle.span_export.specs.Folded.{Sums, add, last_time, stack_text, stood, stood_in, sums_from}
use Rattle.span_export.specs.Site.{Named}
use Rattle.span_export.specs.declared.entry.Entry.{Entry}
use Rattle.span_times.specs.declared.happening.Point.{Point}

-- one more point goes on with the entries
pub entries_more : (ps : List Point) (i : ℕ) (d : Point)
    → i < length ps → lasting (take (i + 1) ps) ≡ entries_after (lasting (take i ps)) (get_or ps i d) (get_or ps i d).what
entries_more ps i d within = fold_more (λ es p. entries_after es p p.what) [] ps i d within

-- it is the last of its lane
pub time_more : (lane : ℕ) (ps : List Point) (i : ℕ) (d : Point)
    → i < length ps → last_time lane (take (i + 1) ps) ≡ (if (get_or ps i d).lane.0 == lane then (get_or ps i d).time else last_time lane (take i ps))
time_more lane ps i d within = fold_more (λ time p. if p.lane.0 == lane then p.time else time) 0 ps i d within

-- where a stack isn't empty, its sum is raised
pub stood_some : (named : ℕ → Named) (stack : List ℕ) (time : ℕ) (sums : Sums)
    → stack ≢ [] → stood_in named stack time sums ≡ add (stack_text named stack) time sums
stood_some named [] time sums some = absurd (some refl)
stood_some named (x ∷ stack) time sums some = refl

-- one more point adds to the sums
pub sums_more : (named : ℕ → Named) (stack : ℕ → List Entry → List ℕ) (ps : List Point) (i : ℕ) (d : Point) (old new whole : Sums) → i < length ps
    → new ≡ stood_in named (stack (get_or ps i d).lane.0 (lasting (take i ps))) (stood (take i ps) (get_or ps i d)) old
    → sums_from named stack old (take i ps) (drop i ps) ≡ whole → sums_from named stack new (take (i + 1) ps) (drop (i + 1) ps) ≡ whole
sums_more named stack ps i d old new whole within now so_far =
    ap (λ before. sums_from named stack new before (drop (i + 1) ps)) (take_more ps i d within)
    ∙ ap (λ sums. sums_from named stack sums (take i ps ++ get_or ps i d ∷ []) (drop (i + 1) ps)) now
    ∙ sym (ap (sums_from named stack old (take i ps)) (drop_more ps i d within)) ∙ so_far
