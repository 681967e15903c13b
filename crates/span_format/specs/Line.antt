-- The line of an event in each layout: a function of it, of what the layer's own context shows, and
-- of the fields that open spans were given.
use Rattle.std.specs.Prelude.{◌||◌, if◌then◌else◌, ℕ, List, [], ◌++◌, codes}
use Rattle.span_core.specs.Event.{event_metadata, event_values}
use Rattle.span_core.specs.Metadata.{level_of}
use Rattle.span_core.specs.declared.event.Event.{Event}
use Rattle.span_core.specs.declared.metadata.Metadata.{Metadata}
use Rattle.span_fmt.specs.Known.{SpanTexts}
use Rattle.span_fmt.specs.Lines.{spaced}
use Rattle.span_format.specs.Field.{words_text}
use Rattle.span_format.specs.Look.{Looks, begun_text, lane_text, level_column, target_text}
use Rattle.span_format.specs.Part.{from_root, outwards}
use Rattle.span_format.specs.Style.{dim_target}
use Rattle.span_format.specs.declared.layout.Layout.{Layout}
use Rattle.span_format.specs.declared.layout.Layout.TheVariants as layout
use Rattle.span_format.specs.declared.part.Part.{Part}
use Rattle.span_format.specs.declared.part.Part.TheVariants as part
use Rattle.span_registry.specs.Behaviour.{Notice, OnEvent}
use Rattle.span_registry.specs.View.{View}

-- what an event says, in this look
abbrev pub said : Looks → Event → List ℕ
said look e = words_text look.layout (event_metadata e) (event_values e)

-- in full: level and lane, the spans round the event, each with its fields, the target, and what the
-- event says
abbrev pub full_line : Looks → Event → View → SpanTexts → List ℕ
full_line look e v kept =
    begun_text look v.lane (level_of (event_metadata e))
    ++ spaced (from_root (part.Label look.ansi) e v kept)
    ++ target_text look (event_metadata e) ++ said look e ++ codes "\n"

-- in short: level and lane, the names of the spans round the event, the target, what the event says,
-- and the fields of those spans
abbrev pub compact_line : Looks → Event → View → SpanTexts → List ℕ
compact_line look e v kept =
    begun_text look v.lane (level_of (event_metadata e))
    ++ spaced (from_root (part.Name look.ansi) e v kept)
    ++ target_text look (event_metadata e) ++ said look e ++ from_root part.Fields e v kept
    ++ codes "\n"

-- a target behind `at`, and a lane behind `on`, as far as they are shown, in a line of their own
abbrev pub at_text : Looks → ℕ → Metadata → List ℕ
at_text look lane m =
    if look.target || look.lanes then
    codes "   " ++ (if look.target then codes " at " ++ dim_target look.ansi m else [])
    ++ (if look.lanes then codes " on " ++ lane_text look lane else []) ++ codes "\n"
    else []

-- the part of a span that is shown in a line of its own: with its target where targets are shown
abbrev pub place_part : Looks → Part
place_part look = if look.target then part.Place look.ansi else part.BarePlace look.ansi

-- for reading: level and what the event says; below it target and lane; a line of each span round
-- the event, innermost first; and an empty line
abbrev pub pretty_line : Looks → Event → View → SpanTexts → List ℕ
pretty_line look e v kept =
    level_column look (level_of (event_metadata e)) ++ said look e ++ codes "\n"
    ++ at_text look v.lane (event_metadata e) ++ outwards (place_part look) e v kept ++ codes "\n"

-- the line of an event, as it is laid out
abbrev pub line_in : Layout → Looks → Event → View → SpanTexts → List ℕ
line_in layout.Full = full_line
line_in layout.Compact = compact_line
line_in layout.Pretty = pretty_line

-- the line of an event in this look
abbrev pub event_line : Looks → Event → View → SpanTexts → List ℕ
event_line look = line_in look.layout look

-- what is written of a notice: the line of an event, and nothing of any other
abbrev pub notice_line : Looks → Notice → View → SpanTexts → List ℕ
notice_line look (OnEvent e) v kept = event_line look e v kept
notice_line look other v kept = []
