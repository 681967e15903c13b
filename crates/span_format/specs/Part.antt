-- What lines show of the spans round an event.
use Rattle.std.specs.Prelude.{ℕ, Bool, List, [], ◌∷◌, ◌++◌, codes, flat_map, reverse}
use Rattle.std.specs.FinMap.{get}
use Rattle.std.specs.Option.{option_map_or}
use Rattle.span_core.specs.declared.event.Event.{Event}
use Rattle.span_core.specs.declared.metadata.Metadata.{Metadata}
use Rattle.span_fmt.specs.Known.{SpanTexts}
use Rattle.span_fmt.specs.Tree.{spans_round}
use Rattle.span_format.specs.Field.{unled}
use Rattle.span_format.specs.Style.{bold_name, dim_target}
use Rattle.span_format.specs.declared.part.Part.{Part}
use Rattle.span_format.specs.declared.part.Part.TheVariants as part
use Rattle.span_registry.specs.References.{Reference}
use Rattle.span_registry.specs.View.{View}

-- fields in braces, and nothing where there are none
abbrev pub braced : List ℕ → List ℕ
braced [] = []
braced (b ∷ bytes) = codes "{" ++ unled (b ∷ bytes) ++ codes "}"

-- fields behind `with`, and nothing where there are none
abbrev pub behind_with : List ℕ → List ℕ
behind_with [] = []
behind_with (b ∷ bytes) = codes " with " ++ unled (b ∷ bytes)

-- a span's name and its fields, to the end of a line
abbrev pub place_text : Bool → Metadata → List ℕ → List ℕ
place_text ansi m fields = bold_name ansi m ++ behind_with fields ++ codes "\n"

-- a part of a span with these fields: its name with its fields in braces and a colon; its name and
-- a colon; its fields; or a line of it, with its target, dimmed, or without
abbrev pub part_text : Part → Metadata → List ℕ → List ℕ
part_text (part.Label ansi) m fields = bold_name ansi m ++ braced fields ++ codes ":"
part_text (part.Name ansi) m fields = bold_name ansi m ++ codes ":"
part_text part.Fields m fields = fields
part_text (part.Place ansi) m fields =
    codes "    in " ++ dim_target ansi m ++ codes "::" ++ place_text ansi m fields
part_text (part.BarePlace ansi) m fields = codes "    in " ++ place_text ansi m fields

-- a part of the span that a reference is to
abbrev pub reference_part : {R : Type 0} → Part → SpanTexts → Reference R → List ℕ
reference_part of kept r = option_map_or (λ s. part_text of s.metadata (kept r.id)) r.span []

-- a part of a span that a view shows
abbrev pub seen_part : Part → View → SpanTexts → ℕ → List ℕ
seen_part of v kept x =
    option_map_or (λ s. part_text of s.metadata (kept x)) (get v.spans x) []

-- a part of each span that a view shows round an event, from the root on
abbrev pub from_root : Part → Event → View → SpanTexts → List ℕ
from_root of e v kept = flat_map (seen_part of v kept) (reverse (spans_round e v))

-- the same, innermost first
abbrev pub outwards : Part → Event → View → SpanTexts → List ℕ
outwards of e v kept = flat_map (seen_part of v kept) (spans_round e v)
