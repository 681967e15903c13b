-- A tree's lines, with the spans round a line again where the line before is of another lane.
use Rattle.std.specs.Prelude.{◌≡◌, ◌≢◌, ◌==◌, not, if◌then◌else◌, ℕ, Bool, false, List, [], ◌∷◌, ◌++◌, Option, None, Some, codes, flat_map, reverse}
use Rattle.std.specs.Option.{option_map}
use Rattle.span_core.specs.Span.{number_of}
use Rattle.span_fmt.specs.Form.{FormMisses, FormSteps}
use Rattle.span_fmt.specs.Lane.{Naming, names_in}
use Rattle.span_fmt.specs.Tree.{notice_text, span_text, spans_above, spans_round}
use Rattle.span_fmt.specs.declared.interleaved.InterleavedForm.{InterleavedForm}
use Rattle.span_registry.specs.Behaviour.{Notice, OnClose, OnEvent, OnNewSpan, OnRecord}
use Rattle.span_registry.specs.References.{Reference}
use Rattle.span_registry.specs.View.{View}

-- the spans that a view shows round what a notice is about, up to the root: above a span, round an
-- event
abbrev pub spans_about : Notice → View → List ℕ
spans_about (OnNewSpan attrs id) v = spans_above (number_of id) v
spans_about (OnRecord id values) v = spans_above (number_of id) v
spans_about (OnClose id) v = spans_above (number_of id) v
spans_about (OnEvent e) v = spans_round e v
spans_about other v = []

-- the line of a span round another: a tree's, with a mark of its own, and without values
abbrev pub round_text : Naming → View → ℕ → List ℕ
round_text names v x = span_text names (codes "|") x [] v

-- the line round another of the span that a reference is to
abbrev pub reference_text : {R : Type 0} → Naming → View → Reference R → List ℕ
reference_text names v r = round_text names v r.id

-- the lines of the spans round what a notice is about, from the root on
abbrev pub context_text : Naming → Notice → View → List ℕ
context_text names e v = flat_map (round_text names v) (reverse (spans_about e v))

-- the line before is of another lane than this
abbrev pub is_other : Option ℕ → ℕ → Bool
is_other None lane = false
is_other (Some last) lane = not (last == lane)

-- a line with a context in front of it, and nothing where there is no line
abbrev pub behind : List ℕ → List ℕ → List ℕ
behind context [] = []
behind context (b ∷ bytes) = context ++ (b ∷ bytes)

-- what is written of a notice: the tree's line; and in front of it, where the line before is of
-- another lane, those of the spans round it
abbrev pub interleaved_text : Naming → Option ℕ → Notice → View → List ℕ
interleaved_text names last e v =
    behind (if is_other last v.lane then context_text names e v else []) (notice_text names e v)

-- the lane of the latest line, once this is written on a lane
abbrev pub next_lane : Option ℕ → List ℕ → ℕ → Option ℕ
next_lane last [] lane = last
next_lane last (b ∷ bytes) lane = Some lane

-- the names that a form has of lanes
abbrev pub lanes_named : InterleavedForm → Naming
lanes_named x = names_in x.names

-- the lane of the latest line, if there is one
abbrev pub last_lane : InterleavedForm → Option ℕ
last_lane x = option_map (λ l. l.0) x.last

-- a form gives what is written of a notice, and keeps in mind of which lane that is
pub record GivesInterleaved (x : InterleavedForm) (e : Notice) (v : View) (line : List ℕ)
    (y : InterleavedForm) : Type 0 where
  pub text : line ≡ interleaved_text (lanes_named x) (last_lane x) e v
  pub last : last_lane y ≡ next_lane (last_lane x) line v.lane
  pub names : lanes_named y ≡ lanes_named x

-- how an `InterleavedForm` gives lines
abbrev pub interleaved_gives : FormSteps InterleavedForm
interleaved_gives = GivesInterleaved

-- memory is refused only where there is a line, and the form stays the same
abbrev pub interleaved_misses : FormMisses InterleavedForm
interleaved_misses x e v y = (notice_text (lanes_named x) e v ≢ []) × (y ≡ x)
