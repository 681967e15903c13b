-- Texts in which control characters and the like are escaped.
use Rattle.std.specs.Prelude.{◌≡◌, ◌==◌, ◌&&◌, ◌||◌, ℕ, if◌then◌else◌, Bool, nat_le, List, [], ◌∷◌, flat_map}
use Rattle.std.specs.Char.Escape.{escape_default}
use Rattle.std.specs.Str.{IsUtf8, chars, encode_utf8_all}

-- a number from the first up to the last
abbrev pub is_among : ℕ → ℕ → ℕ → Bool
is_among first last n = nat_le first n && nat_le n last

-- a character is escaped: a backslash, a control character, a separator of lines or paragraphs, or
-- what turns the direction of writing
abbrev pub is_escaped : ℕ → Bool
is_escaped c =
    c == 92 || is_among 0 31 c || is_among 127 159 c || c == 0x61c || is_among 0x200e 0x200f c
    || is_among 0x2028 0x202e c || is_among 0x2066 0x2069 c

-- the characters that a character is written as: what is escaped as `char::escape_default` has it,
-- all else as it is
abbrev pub escape : ℕ → List ℕ
escape c = if is_escaped c then escape_default c else c ∷ []

-- an escaped text
abbrev pub escaped : List ℕ → List ℕ
escaped text = encode_utf8_all (flat_map escape (chars text))

-- texts that are escaped alike are the same
abbrev pub EscapedTextsDiffer : Type 0
EscapedTextsDiffer =
    (text other : List ℕ) → IsUtf8 text → IsUtf8 other → escaped text ≡ escaped other
    → text ≡ other
