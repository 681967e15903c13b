-- What the forms of `Tree` and `Lines` give of all that they are notified of.
use Rattle.std.specs.Prelude.{◌≡◌, ℕ, List}
use Rattle.span_registry.specs.Position.{Heard}
use Rattle.span_fmt.specs.Form.{Gives}
use Rattle.span_fmt.specs.Forms.{known_by_form, lines_give, names_by_form, names_by_tree, tree_gives}
use Rattle.span_fmt.specs.Told.{heard_lines, heard_text, known_by}
use Rattle.span_fmt.specs.declared.forms.LinesForm.{LinesForm}
use Rattle.span_fmt.specs.declared.forms.TreeForm.{TreeForm}

-- a form of `Tree` gives the lines of all that it is notified of, in order
abbrev pub TreeFormsGiveAll : Type 0
TreeFormsGiveAll =
    (x y : TreeForm) (heard : Heard) (text : List ℕ) → Gives tree_gives x heard text y
    → text ≡ heard_text (names_by_tree x) heard

-- a form of `Lines` gives a line for each event among this, with what it knows of spans by then
abbrev pub LinesFormsGiveEvents : Type 0
LinesFormsGiveEvents =
    (x y : LinesForm) (heard : Heard) (text : List ℕ) → Gives lines_give x heard text y
    → (text ≡ heard_lines (names_by_form x) (known_by_form x) heard)
    × (known_by_form y ≡ known_by heard (known_by_form x)) × (names_by_form y ≡ names_by_form x)
