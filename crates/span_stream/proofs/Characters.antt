-- Texts that are made inert, character by character.
use Rattle.std.proofs.Common.{◌≡◌, ◌⊎◌, ℕ, zero, suc, ◌/◌, ◌%◌, ◌<◌, ◌≤◌, Bool, true, false, not, ◌&&◌, ◌||◌, List, [], ◌∷◌, ◌++◌, length, get_or}
use Rattle.std.proofs.Common.{inl, inr, refl, sym, ap, ◌∙◌, subst, arith, flat_map, rules, tests, length-append, IsUtf8, IsAscii}
use Rattle.std.proofs.lemmas.Bool.{and_parts, cases_eq, cases_lt, false≢true, leb-true, lt-ltb, le-ltb, not-true, or_parts}
use Rattle.std.proofs.lemmas.Bool.Decides.{nat_tests}
use Rattle.std.proofs.lemmas.List.{append-nil, drop_at, get_or_at, take_at}
use Rattle.std.proofs.lemmas.List.Concat.{flat_map-append}
use Rattle.std.proofs.lemmas.Str.{IsCharBoundary-after_ascii, IsCharBoundary-before_ascii, IsUtf8-drop, IsUtf8-encode, IsUtf8-from_ascii, IsUtf8-take}
use Rattle.std.proofs.lemmas.Str.{byte_from_char, chars-IsAscii, chars-append, chars-encodes, chars-nil, encodes-IsAscii, encodes-append, encodes-chars}
use Rattle.std.proofs.lemmas.Str.{inside_one, len_utf8_bounds, length-encode}
use Rattle.std.proofs.lemmas.Str.Ascii.{IsAscii-cons, IsAscii-nil}
use Rattle.std.specs.Char.{digit_char}
use Rattle.std.specs.List.{list_all, list_any}
use Rattle.std.specs.Prelude.{if◌then◌else◌}
use Rattle.std.specs.Str.{chars, encode_utf8_all}
use lib.Utf8.{encode, encodes, scalar, scalars}
use Rattle.json.specs.Print.{escape, escape_byte}
use Rattle.json.proofs.Printed.Strings.{escape_byte_plain}
use Rattle.span_stream.proofs.Spelling.{Spells, spells_ascii, spells_both, spells_escape, spells_high, spells_nothing}
use Rattle.span_fmt.specs.Escape.{is_among}
use Rattle.span_stream.specs.Inert.{inert, inertly, may_act, unicode_escape}

-- ---- printable ASCII stays as it is

abbrev pub is_printable : ℕ → Bool
is_printable c = is_among 32 126 c

pub printable_low : (c : ℕ) → is_printable c ≡ true → c < 127
printable_low c e = omega (arith, leb-true c 126 (and_parts _ _ e).1)

printable_high : (c : ℕ) → is_printable c ≡ true → 32 ≤ c
printable_high c e = leb-true 32 c (and_parts _ _ e).0

-- it may not act
printable_still : (c : ℕ) → is_printable c ≡ true → may_act c ≡ false
printable_still c e = search (rules, tests)

all_ascii : (bs : List ℕ) → list_all is_printable bs ≡ true → IsAscii bs
all_ascii [] e = IsAscii-nil
all_ascii (b ∷ bs) e =
    let two = and_parts (is_printable b) (list_all is_printable bs) e in
    let low = printable_low b two.0 in
    IsAscii-cons b bs (omega arith) (all_ascii bs two.1)

pub none_acts : (bs : List ℕ) → list_all is_printable bs ≡ true → list_any may_act bs ≡ false
none_acts [] e = refl
none_acts (b ∷ bs) e =
    let two = and_parts (is_printable b) (list_all is_printable bs) e in
    ap (λ t. t || list_any may_act bs) (printable_still b two.0) ∙ none_acts bs two.1

stay : (cs : List ℕ) → list_any may_act cs ≡ false → flat_map inertly cs ≡ cs
stay [] e = refl
stay (c ∷ cs) e =
    let none = or_parts (may_act c) (list_any may_act cs) e in
    ap (λ b. (if b then unicode_escape c else c ∷ []) ++ flat_map inertly cs) none.0 ∙ ap (λ ds. c ∷ ds) (stay cs none.1)

-- where no character may act, a text stays as it is
pub unacting : (text : List ℕ) → IsUtf8 text → (found : Bool) → found ≡ list_any may_act (chars text) → not found ≡ true → inert text ≡ text
unacting text u found e none = ap encode_utf8_all (stay (chars text) (sym e ∙ not-true found none)) ∙ encodes-chars text u

pub inert_printable : (w : List ℕ) → list_all is_printable w ≡ true → inert w ≡ w
inert_printable w e =
    let ascii = all_ascii w e in
    ap (λ cs. encode_utf8_all (flat_map inertly cs)) (chars-IsAscii w ascii) ∙ ap encode_utf8_all (stay w (none_acts w e)) ∙ encodes-IsAscii w ascii

pub inert-append : (a b : List ℕ) → IsUtf8 a → inert (a ++ b) ≡ inert a ++ inert b
inert-append a b u =
    ap (λ cs. encode_utf8_all (flat_map inertly cs)) (chars-append a b u) ∙ ap encode_utf8_all (flat_map-append inertly (chars a) (chars b))
    ∙ encodes-append (flat_map inertly (chars a)) (flat_map inertly (chars b))

pub inert_behind : (w r : List ℕ) → list_all is_printable w ≡ true → inert (w ++ r) ≡ w ++ inert r
inert_behind w r e = inert-append w r (IsUtf8-from_ascii w (all_ascii w e)) ∙ ap (λ v. v ++ inert r) (inert_printable w e)

-- ---- where a text may be cut

-- behind printable ASCII
pub utf8_behind : (w r : List ℕ) → list_all is_printable w ≡ true → IsUtf8 (w ++ r) → IsUtf8 r
utf8_behind [] r e u = u
utf8_behind (b ∷ w) r e u =
    let two = and_parts (is_printable b) (list_all is_printable w) e in
    let low = printable_low b two.0 in
    utf8_behind w r two.1
    (IsUtf8-drop (b ∷ (w ++ r)) 1 u (IsCharBoundary-after_ascii (b ∷ (w ++ r)) 0 u (omega arith) (omega arith)))

-- before a byte of ASCII
pub utf8_before : (w r : List ℕ) (b : ℕ) → b < 128 → IsUtf8 (w ++ b ∷ r) → IsUtf8 w × IsUtf8 (b ∷ r)
utf8_before w r b low u =
    let all = w ++ b ∷ r in
    let within : length w < length all = omega (arith, length-append w (b ∷ r)) in
    let there : get_or all (length w) 0 ≡ b = get_or_at w b r 0 (length w) refl in
    let cut = IsCharBoundary-before_ascii all (length w) within (omega arith) in (
      subst IsUtf8 (take_at w (b ∷ r) (length w) refl) (IsUtf8-take all (length w) u cut),
      subst IsUtf8 (drop_at w (b ∷ r) (length w) refl) (IsUtf8-drop all (length w) u cut),
    )

-- ---- a character that is no printable ASCII

digit_printable : (d : ℕ) → d < 16 → is_printable (digit_char d) ≡ true
digit_printable d h = elim (cases_lt d 10) [
  | inl low ↦ rw (lt-ltb d 10 low) (grind (arith, nat_tests))
  | inr high ↦ rw (le-ltb d 10 high) (grind (arith, nat_tests))
]

all_four : Bool → Bool → Bool → Bool → Bool
all_four a b c d = a && (b && (c && (d && true)))

-- an escape is printable
pub escape_printable : (c : ℕ) → list_all is_printable (unicode_escape c) ≡ true
unfolding all_four
escape_printable c =
    let a = digit_printable (c / 0x1000 % 16) (omega arith) in
    let b = digit_printable (c / 0x100 % 16) (omega arith) in
    let d = digit_printable (c / 0x10 % 16) (omega arith) in
    let e = digit_printable (c / 1 % 16) (omega arith) in
    λ i. all_four (a i) (b i) (d i) (e i)

acts_below : (c : ℕ) → may_act c ≡ true → c < 0xd800
acts_below c e = elim (cases_lt c 0xd800) [ inl low ↦ low | inr high ↦ absurd (grind (arith, nat_tests)) ]

pub high_bytes : (c : ℕ) → 127 ≤ c → (k : ℕ) → k < length (encode c) → 127 ≤ get_or (encode c) k 0
high_bytes c high k below = elim (cases_lt (get_or (encode c) k 0) 127) [
  | inl low ↦ absurd (omega (arith, inside_one c [] (encode c) k (sym (append-nil (encode c))) below (omega arith)))
  | inr h ↦ h
]

pub spells_char : (c : ℕ) → 127 ≤ c → Spells (encode_utf8_all (inertly c)) (encode c)
spells_char c high = by (may_act c) refl
  where
    by : (b : Bool) → may_act c ≡ b → Spells (encode_utf8_all (if b then unicode_escape c else c ∷ [])) (encode c)
    by true e =
        subst (λ w. Spells w (encode c)) (sym (encodes-IsAscii (unicode_escape c) (all_ascii (unicode_escape c) (escape_printable c))))
        (spells_escape c (acts_below c e))
    by false e = subst (λ w. Spells w (encode c)) (sym (append-nil (encode c))) (spells_high (encode c) (high_bytes c high))

inert_char : (c : ℕ) → scalar c ≡ true → inert (encode c) ≡ encode_utf8_all (inertly c)
inert_char c ok =
    let one : chars (encode c) ≡ c ∷ [] = ap chars (sym (append-nil (encode c))) ∙ chars-encodes (c ∷ []) (ap (λ b. b && true) ok) in
    ap (λ cs. encode_utf8_all (flat_map inertly cs)) one ∙ ap encode_utf8_all (append-nil (inertly c))

-- ---- what the writer writes for the bytes of a string

-- some printable ASCII
abbrev is_shown : List ℕ → Bool
is_shown [] = false
is_shown (x ∷ w) = is_printable x && list_all is_printable w

all_printable : (w : List ℕ) → is_shown w ≡ true → list_all is_printable w ≡ true
all_printable [] e = refl
all_printable (x ∷ w) e = e

abbrev shown_below : ℕ → Bool
shown_below zero = true
shown_below (suc n) = is_shown (escape_byte n) && shown_below n

shown_each : (n : ℕ) → shown_below n ≡ true → (x : ℕ) → x < n → is_shown (escape_byte x) ≡ true
shown_each zero e x h = absurd (omega arith)
shown_each (suc n) e x h =
    let p = and_parts _ _ e in
    elim (cases_eq x n) [ inl same ↦ rw same p.0 | inr other ↦ shown_each n p.1 x (omega arith) ]

all_shown : shown_below 127 ≡ true
unfolding escape_byte
all_shown = refl

-- printable ASCII, where the byte is below 127
shown : (x : ℕ) → x < 127 → is_shown (escape_byte x) ≡ true
shown x low = shown_each 127 all_shown x low

own : (x : ℕ) → 127 ≤ x → escape_byte x ≡ x ∷ []
own x high = escape_byte_plain x (λ e. omega arith) (λ e. omega arith) (omega arith)

low_first : (a b : List ℕ) (y : ℕ) (r : List ℕ) → is_shown a ≡ true → a ++ b ≡ y ∷ r → y < 127
low_first [] b y r e same = absurd (false≢true e)
low_first (x ∷ a) b y r e same =
    let first : x ≡ y = cc in
    let low = printable_low x (and_parts (is_printable x) (list_all is_printable a) e).0 in
    omega arith

abbrev Split : List ℕ → List ℕ → List ℕ → Type 0
Split w rest s = (t : List ℕ) × (s ≡ w ++ t) × (escape t ≡ rest)

split_more : (y : ℕ) (w rest : List ℕ) (x : ℕ) (s : List ℕ) → 127 ≤ y → escape (x ∷ s) ≡ y ∷ (w ++ rest) → (escape s ≡ w ++ rest → Split w rest s)
    → (x < 127) ⊎ (127 ≤ x) → Split (y ∷ w) rest (x ∷ s)
split_more y w rest x s high e again (inl low) =
    let small = low_first (escape_byte x) (escape s) y (w ++ rest) (shown x low) e in
    absurd (omega arith)
split_more y w rest x s high e again (inr above) =
    let both : x ∷ escape s ≡ y ∷ (w ++ rest) = ap (λ v. v ++ escape s) (sym (own x above)) ∙ e in
    let same : x ≡ y = cc in
    let behind : escape s ≡ w ++ rest = cc in
    let found = again behind in
    (found.0, (λ i. same i ∷ found.1 i), found.2)

-- bytes past printable ASCII are written as they are
split : (w rest s : List ℕ) → ((k : ℕ) → k < length w → 127 ≤ get_or w k 0) → escape s ≡ w ++ rest → Split w rest s
split [] rest s high e = (s, refl, e)
split (y ∷ w) rest [] high e = absurd (cc)
split (y ∷ w) rest (x ∷ s) high e =
    split_more y w rest x s (high 0 (omega arith)) e (λ behind. split w rest s (λ k below. high (suc k) (omega arith)) behind) (cases_lt x 127)

-- ---- a string

abbrev Spelled : List ℕ → Type 0
Spelled s = IsUtf8 (escape s) → Spells (inert (escape s)) s

pub inert_nothing : inert [] ≡ []
inert_nothing = ap (λ cs. encode_utf8_all (flat_map inertly cs)) chars-nil

ascii_more : (x : ℕ) (s : List ℕ) → x < 127 → Spelled s → Spelled (x ∷ s)
ascii_more x s low again u =
    let w = escape_byte x in
    let printed = all_printable w (shown x low) in
    subst (λ v. Spells v (x ∷ s)) (sym (inert_behind w (escape s) printed))
    (spells_both w (inert (escape s)) (x ∷ []) s (spells_ascii x) (again (utf8_behind w (escape s) printed u)))

char_more : (x : ℕ) (s cs : List ℕ) → 127 ≤ x → scalars cs ≡ true → encodes cs ≡ escape (x ∷ s) → ((t : List ℕ) → length t ≤ length s → Spelled t)
    → Spells (inert (escape (x ∷ s))) (x ∷ s)
char_more x s [] high ok is again =
    let none : [] ≡ x ∷ escape s = is ∙ ap (λ v. v ++ escape s) (own x high) in absurd (cc)
char_more x s (c ∷ cs) high ok is again =
    let two = and_parts (scalar c) (scalars cs) ok in
    let first : x ∷ escape s ≡ encode c ++ encodes cs = sym (is ∙ ap (λ v. v ++ escape s) (own x high)) in
    let above : 127 ≤ c = elim (cases_lt c 127) [
      | inl low ↦ absurd (omega (arith, byte_from_char (x ∷ escape s) (encodes cs) c first (omega arith)))
      | inr h ↦ h
    ] in
    let found = split (encode c) (encodes cs) (x ∷ s) (high_bytes c above) (sym is) in
    let t = found.0 in
    let few : length t ≤ length s = omega (arith, ap length found.1, length-append (encode c) t, length-encode c, len_utf8_bounds c) in
    let rest : IsUtf8 (escape t) = subst IsUtf8 (sym found.2) (cs, (two.1, refl)) in
    let whole : escape (x ∷ s) ≡ encode c ++ escape t = sym is ∙ ap (λ r. encode c ++ r) (sym found.2) in
    let apart : inert (escape (x ∷ s)) ≡ encode_utf8_all (inertly c) ++ inert (escape t) =
    ap inert whole ∙ inert-append (encode c) (escape t) (IsUtf8-encode c two.0) ∙ ap (λ v. v ++ inert (escape t)) (inert_char c two.0) in
    subst (λ v. Spells v (x ∷ s)) (sym apart)
    (subst (Spells (encode_utf8_all (inertly c) ++ inert (escape t))) (sym found.1)
    (spells_both (encode_utf8_all (inertly c)) (inert (escape t)) (encode c) t (spells_char c above) (again t few rest)))

spells_upto : (n : ℕ) (s : List ℕ) → length s ≤ n → Spelled s
spells_upto n [] h u = subst (λ v. Spells v []) (sym inert_nothing) spells_nothing
spells_upto zero (x ∷ s) h u = absurd (omega arith)
spells_upto (suc n) (x ∷ s) h u = elim (cases_lt x 127) [
  | inl low ↦ ascii_more x s low (spells_upto n s (omega arith)) u
  | inr high ↦ char_more x s u.0 high u.1.0 u.1.1 (λ t few. spells_upto n t (omega arith))
]

-- what is written for a string, made inert, stands for the string
pub spells_string : (s : List ℕ) → IsUtf8 (escape s) → Spells (inert (escape s)) s
spells_string s u = spells_upto (length s) s (omega arith) u
