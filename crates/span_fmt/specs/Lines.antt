-- What `Lines` writes: a line for each event, a function of it, of what the layer's own context
-- shows, of the values that spans were given, and of the names of lanes.
use Rattle.std.specs.Prelude.{◌≡◌, ◌==◌, if◌then◌else◌, ℕ, Bool, true, false, List, [], ◌∷◌, ◌++◌, codes, flat_map, reverse}
use Rattle.std.specs.FinMap.{get}
use Rattle.std.specs.Option.{option_map_or}
use Rattle.span_core.specs.Event.{event_metadata, event_values}
use Rattle.span_core.specs.Level.{level_text}
use Rattle.span_core.specs.Metadata.{level_of, name_of}
use Rattle.span_core.specs.declared.event.Event.{Event}
use Rattle.span_core.specs.declared.level.Level.{Level}
use Rattle.span_fmt.specs.Escape.{escaped}
use Rattle.span_layers.specs.Observe.{ObserverSteps}
use Rattle.span_registry.specs.Behaviour.{Notice, OnEvent}
use Rattle.span_registry.specs.References.{Reference}
use Rattle.span_registry.specs.View.{View, plain_view}
use Rattle.span_fmt.specs.Known.{SpanTexts, added_text, known_after, known_in, known_still}
use Rattle.span_fmt.specs.Lane.{Naming, lane_text, names_in}
use Rattle.span_fmt.specs.Page.{is_cut, written}
use Rattle.span_fmt.specs.Text.{rest_text}
use Rattle.span_fmt.specs.Tree.{spans_round}
use Rattle.span_fmt.specs.declared.lines.Lines.{Lines}

-- a text without the space in front of it
abbrev pub bare : List ℕ → List ℕ
bare [] = []
bare (b ∷ bytes) = if b == 32 then bytes else b ∷ bytes

-- a text in braces without the space in front of it, and nothing where there is no text
abbrev pub braced : List ℕ → List ℕ
braced [] = []
braced (b ∷ bytes) = codes "{" ++ bare (b ∷ bytes) ++ codes "}"

-- a text with a space behind it, and nothing where there is none
abbrev pub spaced : List ℕ → List ℕ
spaced [] = []
spaced (b ∷ bytes) = (b ∷ bytes) ++ codes " "

-- the text of a span in a line: its name, its values in braces, and a colon
abbrev pub label_text : List ℕ → List ℕ → List ℕ
label_text name values = escaped name ++ braced values ++ codes ":"

-- the text of the span that a reference is to
abbrev pub reference_label : {R : Type 0} → SpanTexts → Reference R → List ℕ
reference_label known r =
    label_text (option_map_or (λ s. name_of s.metadata) r.span []) (known r.id)

-- the text of a span that a view shows
abbrev pub seen_label : View → SpanTexts → ℕ → List ℕ
seen_label v known x =
    label_text (option_map_or (λ s. name_of s.metadata) (get v.spans x) []) (known x)

-- the texts of the spans that a view shows round an event, from the root on
abbrev pub around_text : Event → View → SpanTexts → List ℕ
around_text e v known = flat_map (seen_label v known) (reverse (spans_round e v))

-- how a line begins: with its lane, by its name if it has one, and its level
abbrev pub begun_text : Naming → ℕ → Level → List ℕ
begun_text names lane level =
    lane_text names lane ++ codes " " ++ level_text level ++ codes " "

-- the line of an event: its lane and level, the spans round it, and the rest
abbrev pub event_line : Naming → Event → View → SpanTexts → List ℕ
event_line names e v known =
    begun_text names v.lane (level_of (event_metadata e)) ++ spaced (around_text e v known)
    ++ rest_text (event_metadata e) (event_values e)

-- what is written of a notice: the line of an event, and nothing of any other
abbrev pub notice_line : Naming → Notice → View → SpanTexts → List ℕ
notice_line names (OnEvent e) v known = event_line names e v known
notice_line names other v known = []

-- what a `Lines` has written
abbrev pub text_of : Lines → List ℕ
text_of x = written x.page

-- whether a `Lines` found no memory for a line or for values
abbrev pub has_failed : Lines → Bool
has_failed x = is_cut x.page

-- what a `Lines` knows of spans
abbrev pub known_of : Lines → SpanTexts
known_of x = known_in x.known

-- the names that a `Lines` has of lanes
abbrev pub names_of : Lines → Naming
names_of x = names_in x.names

-- A `Lines` is notified: it writes the line of an event, and knows the values that a span is given.
-- Where memory is refused, or was before, it writes nothing and learns nothing; it doesn't fail
-- where there is neither a line nor a value.
pub record TakesNotice (e : Notice) (v : View) (x y : Lines) : Type 0 where
  pub before : has_failed y ≡ false → has_failed x ≡ false
  pub line : has_failed y ≡ false
      → text_of y ≡ text_of x ++ notice_line (names_of x) e v (known_of x)
  pub known : has_failed y ≡ false → known_of y ≡ known_after e (known_of x)
  pub same : has_failed y ≡ true → text_of y ≡ text_of x
  pub still : has_failed y ≡ true → known_of y ≡ known_still e (known_of x)
  pub free : notice_line (names_of x) e v (known_of x) ≡ [] → added_text e ≡ []
      → has_failed y ≡ has_failed x
  pub names : names_of y ≡ names_of x

-- a `Lines` goes on by what its context shows, extensions aside, and leaves the registry unchanged
abbrev pub lines_steps : ObserverSteps Lines
lines_steps x e lane under v y w = TakesNotice e (plain_view v.store lane under) x y × (w ≡ v)
