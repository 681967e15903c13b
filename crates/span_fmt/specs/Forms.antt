-- What `Tree` and `Lines` write, as forms.
use Rattle.std.specs.Prelude.{◌≡◌, ◌≢◌, ◌⊎◌, []}
use Rattle.span_fmt.specs.Form.{FormMisses, FormSteps}
use Rattle.span_fmt.specs.Known.{SpanTexts, added_text, known_after, known_in, known_still}
use Rattle.span_fmt.specs.Lane.{Naming, names_in}
use Rattle.span_fmt.specs.Lines.{notice_line}
use Rattle.span_fmt.specs.Tree.{notice_text}
use Rattle.span_fmt.specs.declared.forms.LinesForm.{LinesForm}
use Rattle.span_fmt.specs.declared.forms.TreeForm.{TreeForm}

-- the names that a form of a tree has of lanes
abbrev pub names_by_tree : TreeForm → Naming
names_by_tree x = names_in x.names

-- the form of a tree gives the tree's line of a notice, and stays the same
abbrev pub tree_gives : FormSteps TreeForm
tree_gives x e v line y = (line ≡ notice_text (names_by_tree x) e v) × (y ≡ x)

-- memory is refused only where there is a line
abbrev pub tree_misses : FormMisses TreeForm
tree_misses x e v y = (notice_text (names_by_tree x) e v ≢ []) × (y ≡ x)

-- what a form of `Lines` knows of spans
abbrev pub known_by_form : LinesForm → SpanTexts
known_by_form x = known_in x.known

-- the names that a form of `Lines` has of lanes
abbrev pub names_by_form : LinesForm → Naming
names_by_form x = names_in x.names

-- the form of `Lines` gives the line of an event, with what is known of spans, and knows the values
-- that a span is given from then on
abbrev pub lines_give : FormSteps LinesForm
lines_give x e v line y =
    (line ≡ notice_line (names_by_form x) e v (known_by_form x))
    × (known_by_form y ≡ known_after e (known_by_form x)) × (names_by_form y ≡ names_by_form x)

-- memory is refused only where there is a line or a value, and nothing is known that wasn't before
abbrev pub lines_miss : FormMisses LinesForm
lines_miss x e v y =
    (known_by_form y ≡ known_still e (known_by_form x))
    × ((notice_line (names_by_form x) e v (known_by_form x) ≢ []) ⊎ (added_text e ≢ []))
    × (names_by_form y ≡ names_by_form x)
