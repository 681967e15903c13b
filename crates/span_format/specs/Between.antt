-- What stands between the quotes of a line in a layout: the texts that it tells, and nothing else.
use Rattle.std.specs.Prelude.{◌≡◌, if◌then◌else◌, ℕ, List, [], ◌∷◌, ◌++◌, IfSome, flat_map, reverse}
use Rattle.std.specs.FinMap.{get}
use Rattle.std.specs.List.{AllByRecursion}
use Rattle.std.specs.Option.{option_map_or}
use Rattle.std.specs.Str.{IsUtf8}
use Rattle.span_core.specs.Event.{event_metadata, event_values}
use Rattle.span_core.specs.declared.event.Event.{Event}
use Rattle.span_fmt.specs.Between.{AreBare, IsBareSite, Outside, SpanValues, between, quoted_one_by_one, texts_in}
use Rattle.span_fmt.specs.Lane.{name_told}
use Rattle.span_fmt.specs.Tree.{spans_round}
use Rattle.span_format.specs.Field.{fields_text}
use Rattle.span_format.specs.Line.{event_line}
use Rattle.span_format.specs.Look.{Looks}
use Rattle.span_format.specs.declared.layout.Layout.{Layout}
use Rattle.span_format.specs.declared.layout.Layout.TheVariants as layout
use Rattle.span_registry.specs.View.{View}

-- the name of a lane, where lanes are shown
abbrev pub lane_texts : Looks → ℕ → List (List ℕ)
lane_texts look lane = if look.lanes then name_told (look.names lane) else []

-- the texts among the values of a span that a view shows
abbrev pub seen_texts : View → SpanValues → ℕ → List (List ℕ)
seen_texts v given x = option_map_or (λ s. texts_in (given x)) (get v.spans x) []

-- those of the spans round an event, innermost first, and from the root on
abbrev pub texts_outwards : Event → View → SpanValues → List (List ℕ)
texts_outwards e v given = flat_map (seen_texts v given) (spans_round e v)

abbrev pub texts_from_root : Event → View → SpanValues → List (List ℕ)
texts_from_root e v given = flat_map (seen_texts v given) (reverse (spans_round e v))

-- the texts that a line tells, in the order of its layout: of its lane, of spans and of the event
abbrev pub told_in : Layout → Looks → Event → View → SpanValues → List (List ℕ)
told_in layout.Full look e v given =
    lane_texts look v.lane ++ texts_from_root e v given ++ texts_in (event_values e)
told_in layout.Compact look e v given =
    lane_texts look v.lane ++ texts_in (event_values e) ++ texts_from_root e v given
told_in layout.Pretty look e v given =
    texts_in (event_values e) ++ lane_texts look v.lane ++ texts_outwards e v given

-- the same, in this look
abbrev pub texts_told : Looks → Event → View → SpanValues → List (List ℕ)
texts_told look = told_in look.layout look

-- a program has no quote in its own names: of an event, and of the spans that there are
pub record IsBareEvent (e : Event) (v : View) (given : SpanValues) : Type 0 where
  pub site : IsBareSite (event_metadata e)
  pub fields : AreBare (event_values e)
  pub spans : (x : ℕ) → IfSome (get v.spans x) (λ s. IsBareSite s.metadata)
  pub values : (x : ℕ) → AreBare (given x)

-- the line of an event in this look, where spans were given these values
abbrev pub line_of : Looks → Event → View → SpanValues → List ℕ
line_of look e v given = event_line look e v (λ x. fields_text look.layout (given x))

-- between the quotes of a line stand the texts that it tells, in order, and nothing else; so two
-- lines that are the same tell the same texts
pub record FormatsTellTheirTexts : Type 0 where
  pub told : (look : Looks) (e : Event) (v : View) (given : SpanValues) → IsBareEvent e v given
      → between Outside (line_of look e v given) ≡ quoted_one_by_one (texts_told look e v given)
  pub same : (look other : Looks) (e f : Event) (v w : View) (given others : SpanValues)
      → IsBareEvent e v given → IsBareEvent f w others
      → AllByRecursion IsUtf8 (texts_told look e v given)
      → AllByRecursion IsUtf8 (texts_told other f w others)
      → line_of look e v given ≡ line_of other f w others
      → texts_told look e v given ≡ texts_told other f w others
