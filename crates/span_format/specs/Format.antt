-- The format of events' lines.
use Rattle.std.specs.Prelude.{◌≡◌, ◌≢◌, ◌⊎◌, List, [], ℕ}
use Rattle.span_fmt.specs.Form.{FormMisses, FormSteps}
use Rattle.span_fmt.specs.Known.{SpanTexts, known_still}
use Rattle.span_format.specs.Kept.{added_text, kept_after, kept_in}
use Rattle.span_format.specs.Line.{notice_line}
use Rattle.span_format.specs.Look.{Looks, looks}
use Rattle.span_format.specs.declared.format.Format.{Format}
use Rattle.span_registry.specs.Behaviour.{Notice}
use Rattle.span_registry.specs.View.{View}

-- how a format's lines look
abbrev pub looks_of : Format → Looks
looks_of x = looks x.look

-- what a format has kept of open spans' fields
abbrev pub kept_by : Format → SpanTexts
kept_by x = kept_in x.kept

-- a format gives the line of an event, and keeps the fields that a span is given
pub record GivesLine (x : Format) (e : Notice) (v : View) (line : List ℕ) (y : Format) : Type 0 where
  pub given : line ≡ notice_line (looks_of x) e v (kept_by x)
  pub kept : kept_by y ≡ kept_after (looks_of x).layout e (kept_by x)
  pub looks : looks_of y ≡ looks_of x

-- how a format gives lines
abbrev pub format_gives : FormSteps Format
format_gives = GivesLine

-- memory is refused only where there is a line or a field, and nothing is kept that wasn't before
pub record MissesLine (x : Format) (e : Notice) (v : View) (y : Format) : Type 0 where
  pub due : (notice_line (looks_of x) e v (kept_by x) ≢ []) ⊎ (added_text (looks_of x).layout e ≢ [])
  pub kept : kept_by y ≡ known_still e (kept_by x)
  pub looks : looks_of y ≡ looks_of x

-- how a format goes on then
abbrev pub format_misses : FormMisses Format
format_misses = MissesLine
