-- How files are called.
use Rattle.std.specs.Prelude.{◌≡◌, ℕ, zero, suc, ◌+◌, ◌/◌, ◌%◌, pos, unsigned_abs, List, [], ◌∷◌, ◌++◌, length, codes}
use Rattle.jiff.specs.Words.{epoch_day}
use Rattle.jiff.specs.Types.{Date}

-- the last digits of a number, so many of them
abbrev pub padded : ℕ → ℕ → List ℕ
padded zero number = []
padded (suc digits) number = padded digits (number / 10) ++ (48 + number % 10) ∷ []

-- a date as 2026-11-30
abbrev pub date_text : Date → List ℕ
date_text date =
    padded 4 (unsigned_abs date.year) ++ codes "-" ++ padded 2 date.month ++ codes "-"
    ++ padded 2 date.day

-- a text is the date of a day, counted from 1970-01-01
abbrev pub IsDayText : ℕ → List ℕ → Type 0
IsDayText day text = (date : Date) × (epoch_day date ≡ pos day) × (text ≡ date_text date)

-- a file's name: its number in ten digits, and its date
abbrev pub name_text : List ℕ → ℕ → List ℕ → List ℕ → List ℕ
name_text before number date behind = before ++ padded 10 number ++ codes "." ++ date ++ behind

-- a name is that of the file with this number, on some date
abbrev pub IsNameOf : List ℕ → List ℕ → ℕ → List ℕ → Type 0
IsNameOf before behind number name =
    (date : List ℕ) × (length date ≡ 10) × (name ≡ name_text before number date behind)
