-- When a box or a mark of a picture was, as the title tells it.
use Rattle.std.specs.Prelude.{◌-◌, ◌/◌, ◌%◌, ℕ, if◌then◌else◌, nat_le, List, [], ◌∷◌, ◌++◌, None, Option, Some, codes, decimal, length, replicate}
use Rattle.span_export.specs.declared.picture.Scale.{Scale}
use Rattle.span_export.specs.declared.stay.Stay.{Stay}

-- a number below a thousand, in three digits
abbrev pub three_digits : ℕ → List ℕ
three_digits n = replicate (3 - length (decimal n)) 48 ++ decimal n

-- so many thousandths of a unit
abbrev pub in_unit : ℕ → List ℕ → List ℕ
in_unit n unit =
    decimal (n / 1000) ++ codes "." ++ three_digits (n % 1000) ++ codes " " ++ unit

-- the bytes of the unit of microseconds
abbrev pub micro_unit : List ℕ
micro_unit = 194 ∷ 181 ∷ 115 ∷ []

-- a time in the largest unit that it reaches, cut off behind three places
abbrev pub time_told : ℕ → List ℕ
time_told time =
    if nat_le 1000000000 time then in_unit (time / 1000000) (codes "s")
    else if nat_le 1000000 time then in_unit (time / 1000) (codes "ms")
    else if nat_le 1000 time then in_unit time micro_unit
    else decimal time ++ codes " ns"

-- how long a stay that began then lasted, if it is over
abbrev pub lasted_text : ℕ → Option ℕ → List ℕ
lasted_text entered None = codes ", never left"
lasted_text entered (Some left) = codes " for " ++ time_told (left - entered)

-- when a stay was: how long after the first point it began, and how long it lasted
abbrev pub stay_text : Scale → Stay → List ℕ
stay_text scale s =
    codes "\nfrom " ++ time_told (s.entered - scale.begin) ++ lasted_text s.entered s.left

-- when something happened at this time: how long after the first point
abbrev pub moment_text : Scale → ℕ → List ℕ
moment_text scale time = codes "\nat " ++ time_told (time - scale.begin)
