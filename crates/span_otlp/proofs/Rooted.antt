-- The roots that are noted.
use Rattle.std.proofs.Common.{◌≡◌, ◌∙◌, ◌+◌, ◌<◌, ◌++◌, ◌∷◌, [], ℕ, List, ap, append_assoc, get_or, length, map, sym, take}
use Rattle.std.proofs.lemmas.List.{map-append, take_more}
use Rattle.span_otlp.proofs.Sound.{root_behind}
use Rattle.span_otlp.specs.Root.{root_after, root_in}
use Rattle.span_times.specs.declared.happening.Happening.{Happening}
use Rattle.span_times.specs.declared.happening.Point.{Point}

-- one more thing happens
noted_behind : (hs : List Happening) (h : Happening) (old new : ℕ → ℕ) → ((x : ℕ) → old x ≡ root_in hs x) → ((x : ℕ) → new x ≡ root_after h old x)
    → (x : ℕ) → new x ≡ root_in (hs ++ h ∷ []) x
noted_behind hs h old new so_far here x =
    let same : old ≡ root_in hs = λ j y. so_far y j in
    here x ∙ ap (λ (root : ℕ → ℕ). root_after h root x) same ∙ sym (root_behind hs h x)

-- one more opening
pub opening_more : (hs above : List Happening) (i : ℕ) (d : Happening) (old new : ℕ → ℕ)
    → i < length above → ((x : ℕ) → old x ≡ root_in (hs ++ take i above) x) → ((x : ℕ) → new x ≡ root_after (get_or above i d) old x)
    → (x : ℕ) → new x ≡ root_in (hs ++ take (i + 1) above) x
opening_more hs above i d old new within so_far here x =
    noted_behind (hs ++ take i above) (get_or above i d) old new so_far here x
    ∙ ap (λ ks. root_in ks x) (append_assoc hs (take i above) (get_or above i d ∷ []) ∙ ap (λ ks. hs ++ ks) (sym (take_more above i d within)))

-- one more point
pub point_more : (above : List Happening) (ps : List Point) (i : ℕ) (d : Point) (old new : ℕ → ℕ)
    → i < length ps → ((x : ℕ) → old x ≡ root_in (above ++ map (λ p. p.what) (take i ps)) x) → ((x : ℕ) → new x ≡ root_after (get_or ps i d).what old x)
    → (x : ℕ) → new x ≡ root_in (above ++ map (λ p. p.what) (take (i + 1) ps)) x
point_more above ps i d old new within so_far here x =
    let whats : List Point → List Happening = λ qs. map (λ (p : Point). p.what) qs in
    let h = (get_or ps i d).what in
    let more : whats (take (i + 1) ps) ≡ whats (take i ps) ++ h ∷ [] =
    ap whats (take_more ps i d within) ∙ map-append (λ (p : Point). p.what) (take i ps) (get_or ps i d ∷ []) in
    noted_behind (above ++ whats (take i ps)) h old new so_far here x
    ∙ ap (λ ks. root_in ks x) (append_assoc above (whats (take i ps)) (h ∷ []) ∙ ap (λ ks. above ++ ks) (sym more))
