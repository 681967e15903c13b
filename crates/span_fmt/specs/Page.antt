-- A text that grows by whole pieces.
use Rattle.std.specs.Prelude.{◌≡◌, ℕ, Bool, true, false, List, [], ◌++◌, string_bytes}
use Rattle.span_fmt.specs.declared.page.Page.{Page}

-- what is written on a page
abbrev pub written : Page → List ℕ
written p = string_bytes p.text

-- whether a page found no memory for a piece
abbrev pub is_cut : Page → Bool
is_cut p = p.cut

-- the text of a page grows by exactly this piece; or memory was refused for it, or for one before,
-- and the text is unchanged. An empty piece needs no memory, and leaves the page unchanged
pub record Writes (piece : List ℕ) (p q : Page) : Type 0 where
  pub whole : is_cut q ≡ false → (is_cut p ≡ false) × (written q ≡ written p ++ piece)
  pub cut : is_cut q ≡ true → written q ≡ written p
  pub none : piece ≡ [] → q ≡ p
