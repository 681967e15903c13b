-- Texts that stay as they are between quotes.
use Rattle.std.proofs.Common.{◌≡◌, ◌∙◌, ℕ, Bool, true, false, List, [], ◌∷◌, ◌++◌, ap, flat_map, not, refl, sym}
use Rattle.std.proofs.lemmas.Str.{chars-IsAscii, encodes-IsAscii, encodes-chars}
use Rattle.std.specs.Char.Escape.{escape_default}
use Rattle.std.specs.List.{list_all, list_any}
use Rattle.std.specs.Prelude.{◌==◌, ◌&&◌, ◌||◌, if◌then◌else◌, codes}
use Rattle.std.specs.Str.{IsUtf8, chars, encode_utf8_all}
use Rattle.span_fmt.specs.Escape.{escape, is_escaped}
use Rattle.span_fmt.specs.Quote.{inside_quotes, quote_inside}
use Rattle.span_fmt.proofs.Unescaped.{all_ascii, both, is_plain_byte, is_plain_code, neither}

-- a character that is written otherwise between quotes
abbrev pub is_guarded : ℕ → Bool
is_guarded c = c == 34 || is_escaped c

refuted : (b : Bool) → not b ≡ true → b ≡ false
refuted false e = refl
refuted true e = cc

-- a character that is neither a quote nor escaped stays as it is
one : (c : ℕ) → c == 34 ≡ false → is_escaped c ≡ false → quote_inside c ≡ c ∷ []
one c quote escaped =
    ap (λ (b : Bool). if b then codes "\\\"" else escape c) quote
    ∙ ap (λ (b : Bool). if b then escape_default c else c ∷ []) escaped

same : (cs : List ℕ) → not (list_any is_guarded cs) ≡ true → flat_map quote_inside cs ≡ cs
same [] e = refl
same (c ∷ cs) e =
    let none = neither (is_guarded c) (list_any is_guarded cs) e in
    let two = neither (c == 34) (is_escaped c) (ap not none.0) in
    ap (λ ds. ds ++ flat_map quote_inside cs) (one c two.0 two.1) ∙ ap (λ ds. c ∷ ds) (same cs (ap not none.1))

-- where no character is written otherwise, a text stays as it is
pub unquoted : (text : List ℕ) → IsUtf8 text → (found : Bool) → found ≡ list_any is_guarded (chars text) → not found ≡ true → inside_quotes text ≡ text
unquoted text u found e none = ap encode_utf8_all (same (chars text) (sym (ap not e) ∙ none)) ∙ encodes-chars text u

-- a printable character of ASCII that is neither a backslash nor a quote
abbrev pub is_bare_code : ℕ → Bool
is_bare_code c = is_plain_code c && not (c == 34)

all_plain : (bs : List ℕ) → list_all is_bare_code bs ≡ true → list_all is_plain_code bs ≡ true
all_plain [] e = refl
all_plain (b ∷ bs) e =
    let two = both (is_bare_code b) (list_all is_bare_code bs) e in
    ap (λ t. t && list_all is_plain_code bs) (both (is_plain_code b) (not (b == 34)) two.0).0 ∙ all_plain bs two.1

none_guarded : (bs : List ℕ) → list_all is_bare_code bs ≡ true → not (list_any is_guarded bs) ≡ true
none_guarded [] e = refl
none_guarded (b ∷ bs) e =
    let two = both (is_bare_code b) (list_all is_bare_code bs) e in
    let bare = both (is_plain_code b) (not (b == 34)) two.0 in
    ap (λ t. not ((t || is_escaped b) || list_any is_guarded bs)) (refuted (b == 34) bare.1)
    ∙ ap (λ t. not (t || list_any is_guarded bs)) (is_plain_byte b bare.0).1 ∙ none_guarded bs two.1

-- where all bytes are bare, a text stays as it is
pub bare_bytes : (text : List ℕ) → list_all is_bare_code text ≡ true → inside_quotes text ≡ text
bare_bytes text e =
    let ascii = all_ascii text (all_plain text e) in
    ap (λ cs. encode_utf8_all (flat_map quote_inside cs)) (chars-IsAscii text ascii)
    ∙ ap encode_utf8_all (same text (none_guarded text e))
    ∙ encodes-IsAscii text ascii

-- a character that is no quote is written as it is escaped
pub no_quote : (c : ℕ) → c == 34 ≡ false → encode_utf8_all (escape c) ≡ encode_utf8_all (quote_inside c)
no_quote c other = sym (ap (λ (b : Bool). encode_utf8_all (if b then codes "\\\"" else escape c)) other)
