-- Texts that stay as they are.
use Rattle.std.proofs.Common.{◌≡◌, ◌∙◌, ◌==◌, ◌&&◌, ◌<◌, IsAscii, ℕ, Bool, true, false, List, [], ◌∷◌, ◌++◌, ap, flat_map, not, refl, rules, sym, tests}
use Rattle.std.specs.Char.Escape.{escape_default}
use Rattle.std.specs.List.{list_all, list_any}
use Rattle.std.specs.Prelude.{◌||◌, if◌then◌else◌}
use Rattle.std.specs.Str.{IsUtf8, chars, encode_utf8_all}
use Rattle.std.proofs.lemmas.Str.{chars-IsAscii, encodes-IsAscii, encodes-chars}
use Rattle.std.proofs.lemmas.Str.Ascii.{IsAscii-cons, IsAscii-nil}
use Rattle.span_fmt.specs.Escape.{escape, escaped, is_among, is_escaped}

pub neither : (a b : Bool) → not (a || b) ≡ true → (a ≡ false) × (b ≡ false)
neither false false e = (refl, refl)
neither false true e = cc
neither true b e = cc

same : (cs : List ℕ) → not (list_any is_escaped cs) ≡ true → flat_map escape cs ≡ cs
same [] e = refl
same (c ∷ cs) e =
    let none = neither (is_escaped c) (list_any is_escaped cs) e in
    ap (λ b. (if b then escape_default c else c ∷ []) ++ flat_map escape cs) none.0 ∙ ap (λ ds. c ∷ ds) (same cs (ap not none.1))

-- where no character is escaped, a text stays as it is
pub plain : (text : List ℕ) → IsUtf8 text → (found : Bool) → found ≡ list_any is_escaped (chars text) → not found ≡ true → escaped text ≡ text
plain text u found e none = ap encode_utf8_all (same (chars text) (sym (ap not e) ∙ none)) ∙ encodes-chars text u

-- a printable character of ASCII that isn't a backslash
abbrev pub is_plain_code : ℕ → Bool
is_plain_code c = is_among 32 126 c && not (c == 92)

-- such a character is a byte by itself, and isn't escaped
pub is_plain_byte : (c : ℕ) → is_plain_code c ≡ true → (c < 128) × (is_escaped c ≡ false)
is_plain_byte c e = search (rules, tests)

pub both : (a b : Bool) → a && b ≡ true → (a ≡ true) × (b ≡ true)
both true true e = (refl, refl)
both true false e = cc
both false b e = cc

pub all_ascii : (bs : List ℕ) → list_all is_plain_code bs ≡ true → IsAscii bs
all_ascii [] e = IsAscii-nil
all_ascii (b ∷ bs) e =
    let two = both (is_plain_code b) (list_all is_plain_code bs) e in IsAscii-cons b bs (is_plain_byte b two.0).0 (all_ascii bs two.1)

none_escaped : (bs : List ℕ) → list_all is_plain_code bs ≡ true → not (list_any is_escaped bs) ≡ true
none_escaped [] e = refl
none_escaped (b ∷ bs) e =
    let two = both (is_plain_code b) (list_all is_plain_code bs) e in
    ap (λ t. not (t || list_any is_escaped bs)) (is_plain_byte b two.0).1 ∙ none_escaped bs two.1

-- where all bytes are plain, a text stays as it is
pub plain_bytes : (text : List ℕ) → list_all is_plain_code text ≡ true → escaped text ≡ text
plain_bytes text e =
    let ascii = all_ascii text e in
    ap (λ cs. encode_utf8_all (flat_map escape cs)) (chars-IsAscii text ascii)
    ∙ ap encode_utf8_all (same text (none_escaped text e))
    ∙ encodes-IsAscii text ascii
