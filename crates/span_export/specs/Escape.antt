-- Texts in which characters are written in another way.
use Rattle.std.specs.Prelude.{ℕ, ◌==◌, ◌||◌, Bool, false, true, if◌then◌else◌, nat_le, List, [], ◌∷◌, codes, flat_map}
use Rattle.std.specs.Char.{encode_utf8}
use Rattle.std.specs.Str.{chars}

-- a text in which this byte is written so
abbrev pub replace : ℕ → List ℕ → List ℕ → List ℕ
replace byte so text = flat_map (λ b. if b == byte then so else b ∷ []) text

-- XML has this character: below the space it has the tab, the line feed and the carriage return
-- alone, and it has not the two that stand for none
abbrev pub is_in_xml : ℕ → Bool
is_in_xml c =
    if c == 9 || c == 10 || c == 13 then true
    else if c == 65534 || c == 65535 then false else nat_le 32 c

-- a character within XML: it begins or ends no tag, begins no entity, and where XML doesn't have
-- it, U+FFFD stands for it
abbrev pub xml_of : ℕ → List ℕ
xml_of c =
    if c == 38 then codes "&amp;" else if c == 60 then codes "&lt;"
    else if c == 62 then codes "&gt;" else if is_in_xml c then encode_utf8 c
    else encode_utf8 65533

-- a text within XML, character by character
abbrev pub xml_text : List ℕ → List ℕ
xml_text text = flat_map xml_of (chars text)
