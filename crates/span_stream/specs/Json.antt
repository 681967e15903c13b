-- A line of JSON for each event.
use Rattle.std.specs.Prelude.{◌≡◌, ◌≢◌, ⊤, ℕ, List, [], ◌++◌, Some, codes, map, reverse}
use Rattle.std.specs.FinMap.{get}
use Rattle.std.specs.Option.{option_map_or}
use Rattle.json.specs.Lex.{tokens}
use Rattle.json.specs.Print.{print}
use Rattle.serde_json.specs.Data.{Data, no_members}
use Rattle.serde_json.specs.Read.{read}
use Rattle.serde_json.specs.Written.{IsInOrder}
use Rattle.span_core.specs.Field.{present}
use Rattle.span_core.specs.Metadata.{name_of}
use Rattle.span_core.specs.Span.{number_of, recorded_values, values_of}
use Rattle.span_core.specs.declared.event.Event.{Event}
use Rattle.span_fmt.specs.Form.{FormMisses, FormSteps}
use Rattle.span_fmt.specs.Lane.{Naming, names_in}
use Rattle.span_fmt.specs.Tree.{spans_round}
use Rattle.span_registry.specs.Behaviour.{Notice, OnClose, OnEvent, OnNewSpan, OnRecord}
use Rattle.span_registry.specs.References.{Reference}
use Rattle.span_registry.specs.View.{View}
use Rattle.span_stream.specs.Inert.{IsInert, inert}
use Rattle.span_stream.specs.Members.{SpanMembers, members_kept, with_members}
use Rattle.span_stream.specs.Object.{event_data, span_data}
use Rattle.span_stream.specs.Time.{IsTimeText}
use Rattle.span_stream.specs.Values.{with_values}
use Rattle.span_stream.specs.declared.json_form.JsonForm.{JsonForm}
use Rattle.span_stream.specs.declared.time.TimeStyle.{TimeStyle}
use Rattle.span_times.specs.Clock.{Reads}

-- what is known after a notice: a new span and a record add values, and a close takes the span's
-- out
abbrev pub members_after : Notice → SpanMembers → SpanMembers
members_after (OnNewSpan attrs id) known =
    with_members (number_of id) (with_values (values_of attrs) (known (number_of id))) known
members_after (OnRecord id values) known =
    with_members (number_of id) (with_values (recorded_values values) (known (number_of id))) known
members_after (OnClose id) known = with_members (number_of id) no_members known
members_after other known = known

-- what is known after a notice for which memory is refused: nothing is added
abbrev pub members_still : Notice → SpanMembers → SpanMembers
members_still (OnClose id) known = with_members (number_of id) no_members known
members_still other known = known

-- memory is needed for the line of an event, and for values that a span is given
abbrev pub NeedsMemory : Notice → Type 0
NeedsMemory (OnEvent e) = ⊤
NeedsMemory (OnNewSpan attrs id) = present (values_of attrs) ≢ []
NeedsMemory (OnRecord id values) = present (recorded_values values) ≢ []
NeedsMemory other = ⊥

-- the object of the span that a reference is to
abbrev pub reference_object : {R : Type 0} → SpanMembers → Reference R → Data
reference_object known r =
    span_data (option_map_or (λ s. name_of s.metadata) r.span []) (known r.id)

-- the object of a span that a view shows
abbrev pub seen_object : View → SpanMembers → ℕ → Data
seen_object v known x =
    span_data (option_map_or (λ s. name_of s.metadata) (get v.spans x) []) (known x)

-- the objects of the spans that a view shows round an event, from the root on
abbrev pub objects_around : Event → View → SpanMembers → List Data
objects_around e v known = map (seen_object v known) (reverse (spans_round e v))

-- the object of an event, with the lane and the spans round it that a view shows
abbrev pub event_object : List ℕ → Event → View → SpanMembers → Naming → Data
event_object stamp e v known names =
    event_data stamp e v.lane (names v.lane) (objects_around e v known)

-- A line is JSON that reads as this, with each member once and in order, and a line feed. In the
-- JSON nothing stands between tokens, and no character may act on a terminal: each that would is
-- escaped.
abbrev pub IsLineOf : Data → List ℕ → Type 0
IsLineOf d line =
    (text : List ℕ) × (read text ≡ Some d) × IsInOrder text d
    × (text ≡ inert (print (tokens text))) × IsInert text × (line ≡ text ++ codes "\n")

module _ {C : Type 0} where
  -- what a form of JSON knows of spans
  abbrev pub known_of : JsonForm C → SpanMembers
  known_of x = members_kept x.members

  -- the names that a form of JSON has for lanes
  abbrev pub names_of : JsonForm C → Naming
  names_of x = names_in x.names

  -- its clock
  abbrev pub clock_of : JsonForm C → C
  clock_of x = x.clock

  -- how it shows times
  abbrev pub style_of : JsonForm C → TimeStyle
  style_of x = x.style

module _ {C : Type 0} (latest : C → ℕ) (reads : C → ℕ → C → Type 0) where
  -- the line of a notice: of an event its object at a reading of the clock, and of any other none
  abbrev pub GivesLine : JsonForm C → Notice → View → List ℕ → JsonForm C → Type 0
  GivesLine x (OnEvent e) v line y =
      (time : ℕ) × Reads latest reads (clock_of x) time (clock_of y)
      × ((stamp : List ℕ) × IsTimeText (style_of x) time stamp
      × IsLineOf (event_object stamp e v (known_of x) (names_of x)) line)
  GivesLine x other v line y = (line ≡ []) × (clock_of y ≡ clock_of x)

  -- a form of JSON gives the line of an event, and knows the values that a span is given from then
  -- on
  pub record GivesJson (x : JsonForm C) (e : Notice) (v : View) (line : List ℕ) (y : JsonForm C)
      : Type 0 where
    pub given : GivesLine x e v line y
    pub known : known_of y ≡ members_after e (known_of x)
    pub style : style_of y ≡ style_of x
    pub names : names_of y ≡ names_of x

  -- how a form of JSON gives lines
  abbrev pub json_gives : FormSteps (JsonForm C)
  json_gives = GivesJson

  -- the clock is read at an event alone
  abbrev pub MayRead : Notice → C → C → Type 0
  MayRead (OnEvent e) c d = (time : ℕ) × Reads latest reads c time d
  MayRead other c d = d ≡ c

  -- memory is refused only where it is needed; then nothing is known that wasn't before
  pub record MissesJson (x : JsonForm C) (e : Notice) (v : View) (y : JsonForm C) : Type 0 where
    pub refused : NeedsMemory e
    pub clock : MayRead e (clock_of x) (clock_of y)
    pub known : known_of y ≡ members_still e (known_of x)
    pub style : style_of y ≡ style_of x
    pub names : names_of y ≡ names_of x

  -- how a form of JSON goes on then
  abbrev pub json_misses : FormMisses (JsonForm C)
  json_misses = MissesJson
