-- Where lines end in a text.
use Rattle.std.specs.Prelude.{ℕ, ◌+◌, ◌-◌, ◌==◌, ◌&&◌, nat_lt, Bool, not, if◌then◌else◌, List, [], ◌∷◌, length, slice_index, take}
use Rattle.std.specs.List.{suffix_len}

-- how many bytes the first line has, with the newline that ends it
abbrev pub first_line_length : List ℕ → ℕ
first_line_length [] = 0
first_line_length (byte ∷ rest) = if byte == 10 then 1 else first_line_length rest + 1

-- how many bytes a text has up to its last newline
abbrev pub whole_length : List ℕ → ℕ
whole_length text = length text - suffix_len (λ byte. not (byte == 10)) text

-- whether a text ends with a newline
abbrev pub ends_line : List ℕ → Bool
ends_line text = nat_lt 0 (length text) && (slice_index text (length text - 1) == 10)

-- the first line, with the newline that ends it
abbrev pub first_piece : List ℕ → List ℕ
first_piece text = take (first_line_length text) text
