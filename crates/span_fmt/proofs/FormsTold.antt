-- The forms of `Tree` and `Lines` give the lines of all that they are told.
use Rattle.std.proofs.Common.{◌≡◌, ◌∙◌, ℕ, List, [], ◌∷◌, ◌++◌, ap}
use Rattle.span_registry.specs.Position.{Heard}
use Rattle.span_fmt.specs.Form.{Gives}
use Rattle.span_fmt.specs.Forms.{known_by_form, lines_give, names_by_form, names_by_tree, tree_gives}
use Rattle.span_fmt.specs.Known.{SpanTexts}
use Rattle.span_fmt.specs.Lane.{Naming}
use Rattle.span_fmt.specs.Lines.{notice_line}
use Rattle.span_fmt.specs.Told.{heard_lines, heard_text, known_by}
use Rattle.span_fmt.specs.Tree.{notice_text}
use Rattle.span_fmt.specs.declared.forms.LinesForm.{LinesForm}
use Rattle.span_fmt.specs.declared.forms.TreeForm.{TreeForm}

pub tree_given : (x y : TreeForm) (heard : Heard) (text : List ℕ) → Gives tree_gives x heard text y → text ≡ heard_text (names_by_tree x) heard
tree_given x y [] text g = g.0
tree_given x y (told ∷ heard) text g =
    let names = names_by_tree x in
    let more = tree_given g.1 y heard g.2 g.4 ∙ ap (λ (z : TreeForm). heard_text (names_by_tree z) heard) g.3.1 in
    g.5 ∙ ap (λ (l : List ℕ). l ++ g.2) g.3.0 ∙ ap (λ (t : List ℕ). notice_text names told.notice told.view ++ t) more

abbrev LinesGiven : LinesForm → Heard → List ℕ → LinesForm → Type 0
LinesGiven x heard text y =
    (text ≡ heard_lines (names_by_form x) (known_by_form x) heard)
    × (known_by_form y ≡ known_by heard (known_by_form x)) × (names_by_form y ≡ names_by_form x)

pub lines_given : (x y : LinesForm) (heard : Heard) (text : List ℕ) → Gives lines_give x heard text y → LinesGiven x heard text y
lines_given x y [] text g = (g.0, ap known_by_form g.1, ap names_by_form g.1)
lines_given x y (told ∷ heard) text g =
    let more = lines_given g.1 y heard g.2 g.4 in (
      g.5 ∙ ap (λ (l : List ℕ). l ++ g.2) g.3.0
          ∙ ap (λ (t : List ℕ). notice_line (names_by_form x) told.notice told.view (known_by_form x) ++ t)
          (more.0 ∙ (λ i. heard_lines (g.3.2 i) (g.3.1 i) heard)),
      more.1 ∙ ap (known_by heard) g.3.1,
      more.2 ∙ g.3.2,
    )
