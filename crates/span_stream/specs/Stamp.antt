-- A time in front of each line.
use Rattle.std.specs.Prelude.{◌≡◌, ◌≢◌, ◌⊎◌, if◌then◌else◌, ℕ, Bool, List, [], ◌∷◌, ◌++◌, String, codes}
use Rattle.span_fmt.specs.Form.{FormMisses, FormSteps}
use Rattle.span_fmt.specs.Text.{IsContinued}
use Rattle.span_registry.specs.Behaviour.{Notice}
use Rattle.span_registry.specs.View.{View}
use Rattle.span_stream.specs.Time.{IsTimeText}
use Rattle.span_stream.specs.declared.stamp.Stamped.{Stamped}
use Rattle.span_stream.specs.declared.time.TimeStyle.{TimeStyle}
use Rattle.span_times.specs.Clock.{Reads}

-- a text, dimmed where that is asked for, and else alone
abbrev pub dimmed : Bool → List ℕ → List ℕ
dimmed ansi text = if ansi then (27 ∷ codes "[2m") ++ text ++ (27 ∷ codes "[0m") else text

-- this line, behind this time, dimmed or not, and a space
abbrev pub IsStamped : TimeStyle → Bool → ℕ → List ℕ → List ℕ → Type 0
IsStamped style ansi time line whole =
    (stamp : List ℕ) × IsTimeText style time stamp
    × (whole ≡ dimmed ansi stamp ++ codes " " ++ line)

-- a time is appended, dimmed or not
abbrev pub WritesStamp : {A : Type 0} → TimeStyle → Bool → ℕ → String A → String A → Type 0
WritesStamp style ansi time old new =
    (stamp : List ℕ) × IsTimeText style time stamp × IsContinued old new (dimmed ansi stamp)

module _ {F C : Type 0} where
  -- the form whose lines get times
  abbrev pub form_of : Stamped F C → F
  form_of x = x.form

  -- the clock that gives the times
  abbrev pub clock_of : Stamped F C → C
  clock_of x = x.clock

  -- how times are shown
  abbrev pub style_of : Stamped F C → TimeStyle
  style_of x = x.style

  -- whether they are dimmed
  abbrev pub is_dimmed : Stamped F C → Bool
  is_dimmed x = x.ansi

module _ {F C : Type 0} (gives : FormSteps F) (latest : C → ℕ) (reads : C → ℕ → C → Type 0) where
  -- the clock is read once, and this line stands behind the reading
  abbrev pub IsBehindReading : List ℕ → Stamped F C → List ℕ → Stamped F C → Type 0
  IsBehindReading inner x line y =
      (time : ℕ) × Reads latest reads (clock_of x) time (clock_of y)
      × IsStamped (style_of x) (is_dimmed x) time inner line

  -- the form's line stands behind a reading of the clock; where the form gives no line, there is
  -- none, and the clock isn't read
  pub record GivesStamped (x : Stamped F C) (e : Notice) (v : View) (line : List ℕ)
      (y : Stamped F C) : Type 0 where
    pub inner : List ℕ
    pub given : gives (form_of x) e v inner (form_of y)
    pub none : inner ≡ [] → (line ≡ []) × (clock_of y ≡ clock_of x)
    pub some : inner ≢ [] → IsBehindReading inner x line y
    pub style : style_of y ≡ style_of x
    pub ansi : is_dimmed y ≡ is_dimmed x

  -- how a form with times gives lines
  abbrev pub stamped_gives : FormSteps (Stamped F C)
  stamped_gives = GivesStamped

module _ {F C : Type 0} (gives : FormSteps F) (misses : FormMisses F) (latest : C → ℕ)
    (reads : C → ℕ → C → Type 0) where
  -- the form gives a line, and the clock is read, but there is no memory for the whole
  abbrev pub MissesWhole : Stamped F C → Notice → View → Stamped F C → Type 0
  MissesWhole x e v y =
      (inner : List ℕ) × gives (form_of x) e v inner (form_of y) × (inner ≢ [])
      × ((time : ℕ) × Reads latest reads (clock_of x) time (clock_of y))

  -- the form finds no memory, and the clock isn't read; or the whole finds none
  abbrev pub stamped_misses : FormMisses (Stamped F C)
  stamped_misses x e v y =
      (style_of y ≡ style_of x) × (is_dimmed y ≡ is_dimmed x)
      × ((misses (form_of x) e v (form_of y) × (clock_of y ≡ clock_of x)) ⊎ MissesWhole x e v y)
