-- A writer that is handed lines, and what became of them.
use Rattle.std.specs.Prelude.{◌≡◌, ◌≢◌, ◌⊎◌, ◌<◌, ◌+◌, ◌-◌, ◌^◌, ◌==◌, if◌then◌else◌, ℕ, Bool, true, false, not, List, [], ◌∷◌, ◌++◌, Option, length, min, take}
use Rattle.std.specs.Io.KnownBytes.{Appends}
use Rattle.span_fmt.specs.declared.outlet.Outlet.{Outlet}

-- the writer
abbrev pub writer_of : {W : Type 0} → Outlet W → W
writer_of o = o.writer

-- how many lines were lost
abbrev pub lost_of : {W : Type 0} → Outlet W → ℕ
lost_of o = o.lost

-- whether what is written ends within a line
abbrev pub is_torn : {W : Type 0} → Outlet W → Bool
is_torn o = o.torn

-- how many lost lines are counted at most
abbrev pub most_lost : ℕ
most_lost = 2 ^ 64 - 1

-- the count after one more, as far as a u64 goes
abbrev pub next_lost : ℕ → ℕ
next_lost n = min (n + 1) most_lost

-- the same outlet with one more line lost
abbrev pub without_line : {W : Type 0} → Outlet W → Outlet W
without_line o = record o { lost = next_lost o.lost }

-- what stands in front of the next line: a line feed where the last one was cut
abbrev pub mending : Bool → List ℕ
mending torn = if torn then 10 ∷ [] else []

-- a line with that in front of it
abbrev pub mended : Bool → List ℕ → List ℕ
mended torn line = mending torn ++ line

-- Below: a line, whether what was written ends within one, and how many were lost; and the piece of
-- it that is written, and both afterwards.
module _ (line : List ℕ) (torn : Bool) (lost : ℕ) (piece : List ℕ) (torn' : Bool) (lost' : ℕ) where
  -- the line is written whole
  pub record IsWhole : Type 0 where
    pub written : piece ≡ mended torn line
    pub edge : torn' ≡ false
    pub counted : lost' ≡ lost

  -- a beginning of the line is written, or nothing, and the line is lost
  pub record IsPart : Type 0 where
    pub count : ℕ
    pub short : count < length (mended torn line)
    pub written : piece ≡ take count (mended torn line)
    pub edge : torn' ≡ not (count == length (mending torn))
    pub counted : lost' ≡ next_lost lost

  -- a line is handed on; an empty one is none
  pub record IsHanded : Type 0 where
    pub none : line ≡ [] → (piece ≡ []) × (torn' ≡ torn) × (lost' ≡ lost)
    pub some : line ≢ [] → IsWhole ⊎ IsPart

-- of these bytes all but this rest are written
abbrev pub Takes : Option (List ℕ) → Option (List ℕ) → List ℕ → List ℕ → Type 0
Takes old new bytes rest =
    (done : List ℕ) × (bytes ≡ done ++ rest) × Appends old new done

module _ {W : Type 0} (contents : W → Option (List ℕ)) where
  -- a line is handed to the writer, whose bytes, where they are known, grow by a piece of it; with
  -- an empty one nothing is done
  pub record Puts (line : List ℕ) (o p : Outlet W) : Type 0 where
    pub piece : List ℕ
    pub handed : IsHanded line (is_torn o) (lost_of o) piece (is_torn p) (lost_of p)
    pub grown : Appends (contents (writer_of o)) (contents (writer_of p)) piece
    pub none : line ≡ [] → p ≡ o

  -- what is written ends at the end of a line now; or the writer took no line feed
  pub record Mends (o p : Outlet W) (ended : Bool) : Type 0 where
    pub lost : lost_of p ≡ lost_of o
    pub torn : is_torn p ≡ not ended
    pub mended : ended ≡ true
        → Appends (contents (writer_of o)) (contents (writer_of p)) (mending (is_torn o))
    pub failed : ended ≡ false → (is_torn o ≡ true)
        × Appends (contents (writer_of o)) (contents (writer_of p)) []
