-- A text in quotes ends at its quote.
use Rattle.std.proofs.Common.{◌≡◌, ◌≢◌, ◌∙◌, ◌<◌, ℕ, suc, Bool, true, false, List, [], ◌∷◌, ◌++◌, ap, append_assoc, arith, flat_map, length, not, refl, sym}
use Rattle.std.specs.Prelude.{◌==◌, ◌&&◌, codes, get_or, if◌then◌else◌}
use Rattle.std.specs.Char.{encode_utf8}
use Rattle.std.specs.Char.Escape.{escape_default}
use Rattle.std.specs.List.{list_all}
use Rattle.std.specs.Str.{chars, encode_utf8_all}
use Rattle.std.proofs.lemmas.Bool.{eq-eqb, ne_eqb, true≢false}
use Rattle.std.proofs.lemmas.Bool.Decides.{nat_tests}
use Rattle.std.proofs.lemmas.List.{append-nil}
use Rattle.std.proofs.lemmas.Str.{encode_ascii, encodes-append, inside_one}
use Rattle.span_fmt.specs.Escape.{is_among, is_escaped}
use Rattle.span_fmt.specs.Quote.{QuotedTextsEnd, behind_quote, inside_quotes, quote_inside}
use Rattle.span_fmt.proofs.Runs.{Passes, first_of, passed, second_of}

refuted : (b : Bool) → not b ≡ true → b ≡ false
refuted false e = refl
refuted true e = cc

-- ---- what a reader skips

-- ends within no pair of a backslash and what it guards, and has no other quote
abbrev pub skips : Bool → List ℕ → Bool
skips guarded [] = not guarded
skips true (b ∷ bytes) = skips false bytes
skips false (b ∷ bytes) = not (b == 34) && skips (b == 92) bytes

skipped : (guarded : Bool) (xs s : List ℕ) → skips guarded xs ≡ true → behind_quote guarded (xs ++ s) ≡ behind_quote false s
skipped false [] s h = refl
skipped true [] s h = cc
skipped true (b ∷ bytes) s h = skipped false bytes s h
skipped false (b ∷ bytes) s h =
    ap (λ (q : Bool). if q then bytes ++ s else behind_quote (b == 92) (bytes ++ s)) (refuted (b == 34) (first_of (not (b == 34)) (skips (b == 92) bytes) h))
    ∙ skipped (b == 92) bytes s (second_of (not (b == 34)) (skips (b == 92) bytes) h)

-- neither a quote nor a backslash
abbrev IsClean : ℕ → Type 0
IsClean b = (b ≢ 34) × (b ≢ 92)

clean : (xs : List ℕ) → ((k : ℕ) → k < length xs → IsClean (get_or xs k 0)) → skips false xs ≡ true
clean [] h = refl
clean (b ∷ bytes) h =
    let head : IsClean b = h 0 (omega arith) in
    ap (λ (q : Bool). not q && skips (b == 92) bytes) (ne_eqb b 34 head.0)
    ∙ ap (λ (q : Bool). skips q bytes) (ne_eqb b 92 head.1) ∙ clean bytes (λ k low. h (suc k) (omega arith))

-- ---- what is written of a character is skipped

abbrev pub is_ascii : ℕ → Bool
is_ascii c = is_among 0 127 c

pub encoded : (cs : List ℕ) → list_all is_ascii cs ≡ true → encode_utf8_all cs ≡ cs
encoded [] h = refl
encoded (c ∷ cs) h =
    let low = first_of (is_ascii c) (list_all is_ascii cs) h in
    (λ i. encode_ascii c (grind (arith, nat_tests)) i ++ encoded cs (second_of (is_ascii c) (list_all is_ascii cs) h) i)

abbrev pub is_skipped : ℕ → Bool
is_skipped c = list_all is_ascii (escape_default c) && skips false (escape_default c)

pub all_skipped : Passes is_skipped
all_skipped = record { slash = refl; low = refl; high = refl; letter = refl; marks = refl; lines = refl; apart = refl }

ascii_skipped : (cs : List ℕ) → list_all is_ascii cs ≡ true → skips false cs ≡ true → skips false (encode_utf8_all cs) ≡ true
ascii_skipped cs low h = ap (skips false) (encoded cs low) ∙ h

plain_skipped : (c : ℕ) → c ≢ 34 → c ≢ 92 → skips false (encode_utf8 c) ≡ true
plain_skipped c no_quote no_slash =
    let byte = λ (b k : ℕ) (low : k < length (encode_utf8 c)) (e : get_or (encode_utf8 c) k 0 ≡ b) (ascii : b < 128).
    inside_one c [] (encode_utf8 c) k (sym (append-nil (encode_utf8 c))) low (omega (arith, e, ascii)) ∙ e in
    clean (encode_utf8 c) (λ k low. (λ e. no_quote (byte 34 k low e (omega arith)), λ e. no_slash (byte 92 k low e (omega arith))))

pub one_skipped : (c : ℕ) (quote escaped : Bool) → c == 34 ≡ quote → is_escaped c ≡ escaped
    → skips false (encode_utf8_all (if quote then codes "\\\"" else (if escaped then escape_default c else c ∷ []))) ≡ true
one_skipped c true escaped is by = ascii_skipped (codes "\\\"") refl refl
one_skipped c false true is by =
    let both = passed is_skipped all_skipped c by in
    ascii_skipped (escape_default c) (first_of (list_all is_ascii (escape_default c)) (skips false (escape_default c)) both)
    (second_of (list_all is_ascii (escape_default c)) (skips false (escape_default c)) both)
one_skipped c false false is by =
    ap (skips false) (append-nil (encode_utf8 c))
    ∙ plain_skipped c (λ e. true≢false (sym (eq-eqb c 34 e) ∙ is)) (λ e. true≢false (ap is_escaped (sym e) ∙ by))

-- ---- so is a text

all_read : (cs s : List ℕ) → behind_quote false (encode_utf8_all (flat_map quote_inside cs) ++ s) ≡ behind_quote false s
all_read [] s = refl
all_read (c ∷ cs) s =
    let rest = encode_utf8_all (flat_map quote_inside cs) in
    ap (λ (t : List ℕ). behind_quote false (t ++ s)) (encodes-append (quote_inside c) (flat_map quote_inside cs))
    ∙ ap (behind_quote false) (append_assoc (encode_utf8_all (quote_inside c)) rest s)
    ∙ skipped false (encode_utf8_all (quote_inside c)) (rest ++ s) (one_skipped c (c == 34) (is_escaped c) refl refl)
    ∙ all_read cs s

pub quoted_ends : QuotedTextsEnd
quoted_ends text rest =
    ap (behind_quote false) (append_assoc (inside_quotes text) (codes "\"") rest) ∙ all_read (chars text) (codes "\"" ++ rest)
