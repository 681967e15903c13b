-- Which file a text goes to.
use Rattle.std.specs.Prelude.{◌≡◌, ◌≢◌, ℕ, ◌+◌, ◌-◌, ◌<◌, ◌≤◌, ◌==◌, ◌&&◌, ◌⊎◌, nat_le, true, IsTrue, if◌then◌else◌, List, length, take, All, slice_index}
use Rattle.span_appender.specs.Lines.{ends_line, whole_length}
use Rattle.span_appender.specs.declared.place.Place.{Place}
use Rattle.span_appender.specs.declared.rotation.Rotation.{Rotation}

-- how many bytes of a text go where there is this much room: all, or the whole lines that fit
abbrev pub fitting : ℕ → List ℕ → ℕ
fitting room text = if nat_le (length text) room then length text else whole_length (take room text)

-- how many bytes of a text go into a file of a size: what fits, and in an empty file at least what
-- it has room for of a line
abbrev pub share_of : ℕ → ℕ → List ℕ → ℕ
share_of most size text =
    let n = fitting (most - size) text in
    if (size == 0) && ((n == 0) && nat_le 1 (length text)) then most else n

-- if a text is cut, then behind a newline; but a line that is larger than a file may be is cut
-- where an empty file is full
abbrev pub EndsWell : ℕ → ℕ → List ℕ → ℕ → Type 0
EndsWell most size text n =
    (n ≡ 0)
    ⊎ ((n ≡ length text)
    ⊎ ((slice_index text (n - 1) ≡ 10)
    ⊎ ((size ≡ 0) × (n ≡ most) × All (λ byte. byte ≢ 10) (take n text))))

-- a text begins a new file: where files are daily, on a later day and between two lines; or where
-- the present file has no room for any of it
abbrev pub Rolls : Rotation → Place → ℕ → List ℕ → Type 0
Rolls rotation place today text =
    (IsTrue rotation.daily × IsTrue place.whole × (place.day < today))
    ⊎ (share_of rotation.max_bytes place.size text ≡ 0)

-- the place in the next file
abbrev pub next_after : Place → ℕ → Place
next_after place today = record { number = place.number + 1; day = today; size = 0; whole = true }

-- a place after a text was written there
abbrev pub place_after : Place → List ℕ → Place
place_after place text =
    record place {
      size = place.size + length text;
      whole = if length text == 0 then place.whole else ends_line text;
    }

-- the file to which a text goes: the next one where the text begins it, and else the present one
abbrev pub Chooses : Rotation → Place → ℕ → List ℕ → Place → Type 0
Chooses rotation place today text file =
    (Rolls rotation place today text × (file ≡ next_after place today))
    ⊎ (¬ (Rolls rotation place today text) × (file ≡ place))

-- so many bytes of a text went to a file
abbrev pub Reaches : Rotation → Place → List ℕ → ℕ → Place → Type 0
Reaches rotation file text count new =
    (count ≤ share_of rotation.max_bytes file.size text)
    × (new ≡ place_after file (take count text))

-- so many bytes of a text went to the file to which it goes on some day
abbrev pub GoesTo : Rotation → Place → List ℕ → ℕ → Place → Type 0
GoesTo rotation place text count new =
    (today : ℕ) × (file : Place) × Chooses rotation place today text file
    × Reaches rotation file text count new

-- the place is the same, or the next file is begun
abbrev pub MayHaveBegun : Place → Place → Type 0
MayHaveBegun old new = (new ≡ old) ⊎ ((today : ℕ) × (new ≡ next_after old today))
