-- JSON that acts on no terminal.
use Rattle.std.specs.Prelude.{◌≡◌, ◌==◌, ◌&&◌, if◌then◌else◌, ℕ, Bool, false, not, List, [], ◌∷◌, flat_map, map}
use Rattle.std.specs.Char.Escape.{hex_digit_at}
use Rattle.std.specs.List.{list_any}
use Rattle.std.specs.Str.{chars, encode_utf8_all}
use Rattle.span_fmt.specs.Escape.{is_escaped}

-- a character may act on a terminal: `write_escaped` escapes it, and it is no backslash
abbrev pub may_act : ℕ → Bool
may_act c = is_escaped c && not (c == 92)

-- the characters of an escape of JSON: a backslash, `u`, and the four hexadecimal digits of what is
-- escaped
abbrev pub unicode_escape : ℕ → List ℕ
unicode_escape c =
    92 ∷ 117 ∷ map (λ place. hex_digit_at place c) (0x1000 ∷ 0x100 ∷ 0x10 ∷ 1 ∷ [])

-- the characters that a character is written as: one that may act on a terminal as its escape
abbrev pub inertly : ℕ → List ℕ
inertly c = if may_act c then unicode_escape c else c ∷ []

-- a text in which each character that may act on a terminal is escaped
abbrev pub inert : List ℕ → List ℕ
inert text = encode_utf8_all (flat_map inertly (chars text))

-- no character of a text may act on a terminal
abbrev pub IsInert : List ℕ → Type 0
IsInert text = list_any may_act (chars text) ≡ false
