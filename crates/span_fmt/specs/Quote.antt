-- Texts in quotes.
use Rattle.std.specs.Prelude.{◌≡◌, ◌==◌, if◌then◌else◌, ℕ, Bool, true, false, List, [], ◌∷◌, ◌++◌, codes, drop, flat_map}
use Rattle.std.specs.Str.{chars, encode_utf8_all}
use Rattle.span_fmt.specs.Escape.{escape}

-- the characters that a character is written as between quotes: a quote behind a backslash, and all
-- else as it is escaped
abbrev pub quote_inside : ℕ → List ℕ
quote_inside c = if c == 34 then codes "\\\"" else escape c

-- what stands between the quotes
abbrev pub inside_quotes : List ℕ → List ℕ
inside_quotes text = encode_utf8_all (flat_map quote_inside (chars text))

-- a text in quotes
abbrev pub quoted : List ℕ → List ℕ
quoted text = codes "\"" ++ inside_quotes text ++ codes "\""

-- what stands behind the first quote that no backslash guards; where this is `true`, a backslash
-- guards the first byte
abbrev pub behind_quote : Bool → List ℕ → List ℕ
behind_quote guarded [] = []
behind_quote true (b ∷ bytes) = behind_quote false bytes
behind_quote false (b ∷ bytes) = if b == 34 then bytes else behind_quote (b == 92) bytes

-- who reads on from a text's first quote to the next that no backslash guards comes to its end,
-- whatever the text says
abbrev pub QuotedTextsEnd : Type 0
QuotedTextsEnd =
    (text rest : List ℕ) → behind_quote false (drop 1 (quoted text ++ rest)) ≡ rest
