-- Columns and their widths.
use Rattle.std.proofs.Common.{arith, ◌≡◌, ◌≢◌, ◌∙◌, ◌<◌, ◌≤◌, ◌+◌, ℕ, List, [], ◌∷◌, ◌++◌, add-zero, ap, append-nil, flat_map, get_or, length, map, max, refl}
use Rattle.std.proofs.Common.{suc, sym, zero-add}
use Rattle.std.proofs.lemmas.Bool.{cases_eq}
use Rattle.std.proofs.Common.{⊎_elim}
use Rattle.std.proofs.lemmas.List.{map-append}
use Rattle.std.proofs.lemmas.List.Concat.{flat_map-append}
use Rattle.std.specs.List.{enumerate_from}
use Rattle.span_timing.proofs.Adding.{greatest_more}
use Rattle.span_timing.specs.Histogram.{greatest}
use Rattle.span_timing.specs.Layout.{Line, column_width, line_text, width_of}

-- a column with the cell of one more line
pub wider : (lines : List Line) (line : Line) (k : ℕ) → column_width (lines ++ line ∷ []) k ≡ max (column_width lines k) (width_of (get_or line k []))
wider lines line k =
    let wide : Line → ℕ = λ it. width_of (get_or it k []) in
    ap greatest (map-append wide lines (line ∷ [])) ∙ greatest_more (map wide lines) (wide line)

-- each cell with its column, and one more
pub enumerate_push : {X : Type 0} → (n : ℕ) (xs : List X) (x : X) → enumerate_from n (xs ++ x ∷ []) ≡ enumerate_from n xs ++ (n + length xs, x) ∷ []
enumerate_push n [] x = ap (λ m. (m, x) ∷ []) (sym (add-zero n))
enumerate_push n (y ∷ xs) x =
    ap (λ es. (n, y) ∷ es) (enumerate_push (n + 1) xs x ∙ ap (λ m. enumerate_from (n + 1) xs ++ (m, x) ∷ []) (sums n (length xs)))
  where
    sums : (n l : ℕ) → n + 1 + l ≡ n + (suc l)
    sums n l = omega arith

-- what is written of each cell, and of one more
pub cells_more : (g : ℕ → List ℕ → List ℕ) (cells : Line) (cell : List ℕ) (i : ℕ) → length cells ≡ i
    → flat_map (λ (e : ℕ × List ℕ). g e.0 e.1) (enumerate_from 0 (cells ++ cell ∷ []))
    ≡ flat_map (λ (e : ℕ × List ℕ). g e.0 e.1) (enumerate_from 0 cells) ++ g i cell
cells_more g cells cell i long =
    let one : ℕ × List ℕ → List ℕ = λ e. g e.0 e.1 in
    ap (flat_map one) (enumerate_push 0 cells cell) ∙ flat_map-append one (enumerate_from 0 cells) ((0 + length cells, cell) ∷ [])
    ∙ ap (λ n. flat_map one (enumerate_from 0 cells) ++ (g n cell ++ [])) (zero-add (length cells) ∙ long)
    ∙ ap (λ bs. flat_map one (enumerate_from 0 cells) ++ bs) (append-nil (g i cell))

-- lines are written alike by widths that are the same
pub same_widths : (f g : ℕ → ℕ) → ((k : ℕ) → f k ≡ g k) → line_text f ≡ line_text g
same_widths f g same = let widths : f ≡ g = λ i k. same k i in ap line_text widths
