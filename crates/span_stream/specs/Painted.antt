-- Lines in the colours of their levels.
use Rattle.std.specs.Prelude.{◌≡◌, ◌≢◌, ◌⊎◌, ◌==◌, if◌then◌else◌, ℕ, Bool, true, false, List, ◌∷◌, ◌++◌, Option, None, Some, codes}
use Rattle.std.specs.Option.{option_map}
use Rattle.span_core.specs.Event.{event_metadata}
use Rattle.span_core.specs.Level.{level_number}
use Rattle.span_core.specs.Metadata.{level_of}
use Rattle.span_core.specs.Span.{number_of}
use Rattle.span_core.specs.declared.level.Level.{Level}
use Rattle.span_fmt.specs.Form.{FormMisses, FormSteps}
use Rattle.span_registry.specs.Behaviour.{Notice, OnClose, OnEvent, OnNewSpan, OnRecord}
use Rattle.span_registry.specs.View.{View, metadata_shown}
use Rattle.span_stream.specs.declared.painted.Painted.{Painted}

-- the colour of a level's number: red, yellow, green, blue, magenta
abbrev pub colour_code : ℕ → List ℕ
colour_code n =
    if n == 1 then codes "[31m"
    else (if n == 2 then codes "[33m"
    else (if n == 3 then codes "[32m" else (if n == 4 then codes "[34m" else codes "[35m")))

-- what begins the colour of a level: an escape, and its code
abbrev pub colour_of : Level → List ℕ
colour_of l = 27 ∷ colour_code (level_number l)

-- what ends a colour, and a line
abbrev pub line_end : List ℕ
line_end = 27 ∷ codes "[0m\n"

-- the words of a line stand between what begins a colour and what ends it; a text that doesn't end
-- with a line feed stays as it is
abbrev pub IsColoured : List ℕ → List ℕ → List ℕ → Type 0
IsColoured colour line text =
    ((words : List ℕ) × (line ≡ words ++ codes "\n") × (text ≡ colour ++ words ++ line_end))
    ⊎ (((words : List ℕ) → line ≢ words ++ codes "\n") × (text ≡ line))

-- a line is in the colour of this level, if there is one
abbrev pub IsPainted : Option Level → List ℕ → List ℕ → Type 0
IsPainted None line text = text ≡ line
IsPainted (Some l) line text = IsColoured (colour_of l) line text

-- the level of a span that a view shows
abbrev pub span_level : ℕ → View → Option Level
span_level x v = option_map level_of (metadata_shown x v)

-- the level of an event, or of a span that a view shows
abbrev pub level_shown : Notice → View → Option Level
level_shown (OnNewSpan attrs id) v = span_level (number_of id) v
level_shown (OnRecord id values) v = span_level (number_of id) v
level_shown (OnClose id) v = span_level (number_of id) v
level_shown (OnEvent e) v = Some (level_of (event_metadata e))
level_shown other v = None

module _ {F : Type 0} where
  -- the form whose lines are coloured
  abbrev pub inner_of : Painted F → F
  inner_of x = x.form

  -- whether colours are asked for
  abbrev pub is_coloured : Painted F → Bool
  is_coloured x = x.colours

module _ {F : Type 0} (gives : FormSteps F) where
  -- the form's line is in colour where that is asked for, and else as it is
  pub record GivesPainted (x : Painted F) (e : Notice) (v : View) (line : List ℕ) (y : Painted F)
      : Type 0 where
    pub inner : List ℕ
    pub given : gives (inner_of x) e v inner (inner_of y)
    pub plain : is_coloured x ≡ false → line ≡ inner
    pub painted : is_coloured x ≡ true → IsPainted (level_shown e v) inner line
    pub colours : is_coloured y ≡ is_coloured x

  -- how a form with colours gives lines
  abbrev pub painted_gives : FormSteps (Painted F)
  painted_gives = GivesPainted

module _ {F : Type 0} (gives : FormSteps F) (misses : FormMisses F) where
  -- the form finds no memory; or the whole finds none, where colours are asked for
  abbrev pub painted_misses : FormMisses (Painted F)
  painted_misses x e v y =
      (is_coloured y ≡ is_coloured x)
      × (misses (inner_of x) e v (inner_of y)
      ⊎ ((is_coloured x ≡ true)
      × ((inner : List ℕ) × gives (inner_of x) e v inner (inner_of y))))
