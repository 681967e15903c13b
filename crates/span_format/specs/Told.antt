-- What a format gives of all that it is notified of.
use Rattle.std.specs.Prelude.{◌≡◌, ◌==◌, if◌then◌else◌, ℕ, List, [], ◌∷◌, ◌++◌, flat_map}
use Rattle.std.specs.List.{AllByRecursion}
use Rattle.span_core.specs.Span.{number_of, recorded_values, values_of}
use Rattle.span_core.specs.declared.span.Id.{Id}
use Rattle.span_fmt.specs.Form.{Gives}
use Rattle.span_fmt.specs.Known.{SpanTexts, Spares}
use Rattle.span_format.specs.Field.{fields_text}
use Rattle.span_format.specs.Format.{format_gives, kept_by, looks_of}
use Rattle.span_format.specs.Kept.{kept_after}
use Rattle.span_format.specs.Line.{notice_line}
use Rattle.span_format.specs.Look.{Looks}
use Rattle.span_format.specs.declared.format.Format.{Format}
use Rattle.span_format.specs.declared.layout.Layout.{Layout}
use Rattle.span_registry.specs.Behaviour.{Notice, OnClose, OnNewSpan, OnRecord}
use Rattle.span_registry.specs.Position.{Heard}

-- what is kept of open spans after all this
abbrev pub kept_through : Layout → Heard → SpanTexts → SpanTexts
kept_through how [] kept = kept
kept_through how (told ∷ heard) kept = kept_through how heard (kept_after how told.notice kept)

-- the lines of the events among this, in order, each in its own view and with what is kept of spans
-- by then
abbrev pub heard_lines : Looks → SpanTexts → Heard → List ℕ
heard_lines look kept [] = []
heard_lines look kept (told ∷ heard) =
    notice_line look told.notice told.view kept
    ++ heard_lines look (kept_after look.layout told.notice kept) heard

-- a format gives these lines of all that it is notified of
abbrev pub FormatsGiveEvents : Type 0
FormatsGiveEvents =
    (x y : Format) (heard : Heard) (text : List ℕ) → Gives format_gives x heard text y
    → (text ≡ heard_lines (looks_of x) (kept_by x) heard)
    × (kept_by y ≡ kept_through (looks_of x).layout heard (kept_by x)) × (looks_of y ≡ looks_of x)

-- the fields that a notice gives this span
abbrev pub given_text : Layout → ℕ → Notice → List ℕ
given_text how x (OnNewSpan attrs id) =
    if number_of id == x then fields_text how (values_of attrs) else []
given_text how x (OnRecord id values) =
    if number_of id == x then fields_text how (recorded_values values) else []
given_text how x other = []

-- of a span that isn't closed by any of this, all that was kept is kept, and behind it all that it
-- was given, in order; and of a span that closes nothing is kept
pub record KeepsWhatWasGiven : Type 0 where
  pub given : (how : Layout) (x : ℕ) (heard : Heard) (kept : SpanTexts)
      → AllByRecursion (λ told. Spares x told.notice) heard
      → kept_through how heard kept x
      ≡ kept x ++ flat_map (λ told. given_text how x told.notice) heard
  pub closed : (how : Layout) (id : Id) (kept : SpanTexts)
      → kept_after how (OnClose id) kept (number_of id) ≡ []
