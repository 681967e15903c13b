-- The text of a time.
use Rattle.std.specs.Prelude.{◌≡◌, ◌-◌, ◌/◌, ◌%◌, ℕ, pos, List, ◌++◌, String, codes, decimal, false, length, replicate, Some}
use Rattle.jiff_core.specs.DateTime.{civil_nanos}
use Rattle.jiff_core.specs.declared.civil.datetime.DateTime.{DateTime}
use Rattle.jiff_fmt.specs.Text.{datetime_text}
use Rattle.span_fmt.specs.Text.{IsContinued}
use Rattle.span_stream.specs.declared.time.TimeStyle.{TimeStyle}
use Rattle.span_stream.specs.declared.time.TimeStyle.TheVariants as style

-- a number below a million, in six digits
abbrev pub six_digits : ℕ → List ℕ
six_digits n = replicate (6 - length (decimal n)) 48 ++ decimal n

-- so many nanoseconds as seconds with six places
abbrev pub seconds_text : ℕ → List ℕ
seconds_text time =
    decimal (time / 1000 / 1_000_000) ++ codes "." ++ six_digits (time / 1000 % 1_000_000)
    ++ codes "s"

-- a text shows a time so: what a clock at UTC shows, with six places and a Z; or seconds
abbrev pub IsTimeText : TimeStyle → ℕ → List ℕ → Type 0
IsTimeText style.Utc time text =
    (at : DateTime) × (civil_nanos at ≡ pos time)
    × (text ≡ datetime_text false 84 (Some 6) at ++ codes "Z")
IsTimeText style.Seconds time text = text ≡ seconds_text time

-- a time is appended
abbrev pub WritesTime : {A : Type 0} → TimeStyle → ℕ → String A → String A → Type 0
WritesTime style time old new =
    (text : List ℕ) × IsTimeText style time text × IsContinued old new text
