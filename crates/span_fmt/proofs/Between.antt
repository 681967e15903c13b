-- What stands between the quotes of a line.
use Rattle.std.proofs.Common.{◌≡◌, ◌≢◌, ◌∙◌, ◌<◌, ℕ, zero, suc, Bool, true, false, List, [], ◌∷◌, ◌++◌, ap, append_assoc, arith, flat_map, length, not, inl}
use Rattle.std.proofs.Common.{inr, refl, reverse, sym}
use Rattle.std.specs.Prelude.{if◌then◌else◌, ◌==◌, ◌&&◌, ◌||◌, ◌/◌, ◌%◌, ◌+◌, ℤ, pos, negsuc, codes, decimal, get_or, nat_lt, drop}
use Rattle.std.specs.Borrow.{Bor}
use Rattle.std.specs.Fmt.{digit_glyph, digits, digits_onto, signed_decimal}
use Rattle.std.specs.Char.{encode_utf8}
use Rattle.std.specs.Char.Escape.{escape_default}
use Rattle.std.specs.FinMap.{get}
use Rattle.std.specs.List.{AllByRecursion, list_all, list_any}
use Rattle.std.specs.Option.{option_map_or}
use Rattle.std.specs.Str.{IsUtf8, chars, encode_utf8_all}
use Rattle.std.proofs.lemmas.Bool.{eq-eqb, eqb-true, ne_eqb, true≢false}
use Rattle.std.proofs.lemmas.Grind.{flat_map-append}
use Rattle.std.proofs.lemmas.List.{append-nil, append_cancel_left, append_cancel_right}
use Rattle.std.proofs.lemmas.List.Folds.{list_any-append}
use Rattle.std.proofs.lemmas.Str.{encodes-append, encodes-chars, encodes_same, inside_one}
use Rattle.span_core.specs.Event.{event_metadata, event_values}
use Rattle.span_core.specs.Field.{float_text, flag_text, present}
use Rattle.span_core.specs.Level.{level_text, verbosity_text}
use Rattle.span_core.specs.Metadata.{level_of, name_of, target_of}
use Rattle.span_core.specs.declared.event.Event.{Event}
use Rattle.span_core.specs.declared.field.FieldValue.{FieldValue}
use Rattle.span_core.specs.declared.field.FieldValue.TheVariants as value
use Rattle.span_core.specs.declared.level.Level.{Level}
use Rattle.span_core.specs.declared.level.Verbosity.{Verbosity}
use Rattle.span_core.specs.declared.level.Verbosity.TheVariants as verbosity
use Rattle.span_core.specs.declared.metadata.Metadata.{Metadata}
use Rattle.span_registry.specs.View.{View}
use Rattle.span_fmt.specs.Between.{AreBare, Guarded, Inside, IsBare, IsBareEvent, IsBareFloat, IsBareSite, LinesTellTheirTexts, Outside, Place, SpanValues}
use Rattle.span_fmt.specs.Between.{between, line_of, quoted_one_by_one, text_in, texts_in, texts_told}
use Rattle.span_fmt.specs.Escape.{escape, escaped, is_escaped}
use Rattle.span_fmt.specs.Lane.{Naming, lane_text, name_or_number, name_told}
use Rattle.span_fmt.specs.Lines.{around_text, bare, begun_text, braced, label_text, seen_label, spaced}
use Rattle.span_fmt.specs.Quote.{behind_quote, inside_quotes, quote_inside, quoted}
use Rattle.span_fmt.specs.Text.{field_text, fields_text, rest_text, shown_text}
use Rattle.span_fmt.specs.Tree.{spans_round}
use Rattle.span_fmt.proofs.Closing.{all_skipped, encoded, is_ascii, is_skipped, one_skipped, quoted_ends, skips}
use Rattle.span_fmt.proofs.Differ.{by, cons_head, cons_nil, filled, one_alike, one_starts, starts}
use Rattle.span_fmt.proofs.Runs.{Passes, first_of, passed, second_of}

-- ---- what a text tells, whatever stands behind it

-- a text that is read from outside quotes tells these, and leaves the reader outside
abbrev pub Tells : List ℕ → List (List ℕ) → Type 0
Tells text told = (rest : List ℕ) → between Outside (text ++ rest) ≡ quoted_one_by_one told ++ between Outside rest

pub tells_nothing : Tells [] []
tells_nothing rest = refl

pub tells_both : (a b : List ℕ) (s t : List (List ℕ)) → Tells a s → Tells b t → Tells (a ++ b) (s ++ t)
tells_both a b s t p q rest =
    ap (between Outside) (append_assoc a b rest) ∙ p (b ++ rest) ∙ ap (λ x. quoted_one_by_one s ++ x) (q rest)
    ∙ sym (append_assoc (quoted_one_by_one s) (quoted_one_by_one t) (between Outside rest))
    ∙ ap (λ x. x ++ between Outside rest) (sym (flat_map-append (λ t. inside_quotes t ++ codes "\"") s t))

-- ---- a text without a quote tells nothing

abbrev pub has_quote : List ℕ → Bool
has_quote text = list_any (λ b. b == 34) text

neither : (a b : Bool) → a || b ≡ false → (a ≡ false) × (b ≡ false)
neither false b e = (refl, e)
neither true b e = cc

pub tells_bare : (text : List ℕ) → has_quote text ≡ false → Tells text []
tells_bare [] e rest = refl
tells_bare (b ∷ bytes) e rest =
    let two = neither (b == 34) (has_quote bytes) e in
    ap (λ (q : Bool). between (if q then Inside else Outside) (bytes ++ rest)) two.0 ∙ tells_bare bytes two.1 rest

pub tells_more : (a b : List ℕ) (told : List (List ℕ)) → has_quote a ≡ false → Tells b told → Tells (a ++ b) told
tells_more a b told e q = tells_both a b [] told (tells_bare a e) q

pub tells_then : (a b : List ℕ) (told : List (List ℕ)) → Tells a told → has_quote b ≡ false → Tells (a ++ b) told
tells_then a b told p e rest = ap (between Outside) (append_assoc a b rest) ∙ p (b ++ rest) ∙ ap (λ x. quoted_one_by_one told ++ x) (tells_bare b e rest)

-- ---- a text in quotes tells itself

abbrev place_of : Bool → Place
place_of true = Guarded
place_of false = Inside

refuted : (b : Bool) → not b ≡ true → b ≡ false
refuted false e = refl
refuted true e = cc

guarded_by : (q : Bool) → (if q then Guarded else Inside) ≡ place_of q
guarded_by true = refl
guarded_by false = refl

read_inside : (guarded : Bool) (xs s : List ℕ) → skips guarded xs ≡ true → between (place_of guarded) (xs ++ s) ≡ xs ++ between Inside s
read_inside false [] s h = refl
read_inside true [] s h = cc
read_inside true (b ∷ bytes) s h = ap (λ x. b ∷ x) (read_inside false bytes s h)
read_inside false (b ∷ bytes) s h =
    let none = refuted (b == 34) (first_of (not (b == 34)) (skips (b == 92) bytes) h) in
    ap (λ (q : Bool). b ∷ between (if q then Outside else (if b == 92 then Guarded else Inside)) (bytes ++ s)) none
    ∙ ap (λ (place : Place). b ∷ between place (bytes ++ s)) (guarded_by (b == 92))
    ∙ ap (λ x. b ∷ x) (read_inside (b == 92) bytes s (second_of (not (b == 34)) (skips (b == 92) bytes) h))

all_inside : (cs s : List ℕ) → between Inside (encode_utf8_all (flat_map quote_inside cs) ++ s) ≡ encode_utf8_all (flat_map quote_inside cs) ++ between Inside s
all_inside [] s = refl
all_inside (c ∷ cs) s =
    let rest = encode_utf8_all (flat_map quote_inside cs) in
    let one = encode_utf8_all (quote_inside c) in
    let joined = encodes-append (quote_inside c) (flat_map quote_inside cs) in
    ap (λ (t : List ℕ). between Inside (t ++ s)) joined
    ∙ ap (between Inside) (append_assoc one rest s)
    ∙ read_inside false one (rest ++ s) (one_skipped c (c == 34) (is_escaped c) refl refl)
    ∙ ap (λ x. one ++ x) (all_inside cs s)
    ∙ sym (append_assoc one rest (between Inside s))
    ∙ ap (λ (t : List ℕ). t ++ between Inside s) (sym joined)

pub tells_quoted : (text : List ℕ) → Tells (quoted text) (text ∷ [])
tells_quoted text rest =
    let inside = inside_quotes text in
    ap (between Inside) (append_assoc inside (codes "\"") rest)
    ∙ all_inside (chars text) (codes "\"" ++ rest)
    ∙ sym (append_assoc inside (codes "\"") (between Outside rest))
    ∙ ap (λ x. x ++ between Outside rest) (sym (append-nil (inside ++ codes "\"")))

-- ---- names, numbers and floats

pub has_none : (xs ys : List ℕ) → has_quote xs ≡ false → has_quote ys ≡ false → has_quote (xs ++ ys) ≡ false
has_none xs ys p q = list_any-append (λ b. b == 34) xs ys ∙ ap (λ (t : Bool). t || has_quote ys) p ∙ q

skips_none : (xs : List ℕ) → list_all (λ b. not (b == 34)) xs ≡ true → has_quote xs ≡ false
skips_none [] e = refl
skips_none (b ∷ bytes) e =
    let head = refuted (b == 34) (first_of (not (b == 34)) (list_all (λ b. not (b == 34)) bytes) e) in
    ap (λ (t : Bool). t || has_quote bytes) head ∙ skips_none bytes (second_of (not (b == 34)) (list_all (λ b. not (b == 34)) bytes) e)

abbrev pub is_bare_escape : ℕ → Bool
is_bare_escape c = list_all (λ d. not (d == 34)) (escape_default c)

all_bare : Passes is_bare_escape
all_bare = record { slash = refl; low = refl; high = refl; letter = refl; marks = refl; lines = refl; apart = refl }

none_at : (xs : List ℕ) → ((k : ℕ) → k < length xs → get_or xs k 0 ≢ 34) → has_quote xs ≡ false
none_at [] h = refl
none_at (b ∷ bytes) h =
    ap (λ (t : Bool). t || has_quote bytes) (ne_eqb b 34 (h 0 (omega arith))) ∙ none_at bytes (λ k low. h (suc k) (omega arith))

char_bare : (c : ℕ) → c ≢ 34 → has_quote (encode_utf8 c) ≡ false
char_bare c other =
    none_at (encode_utf8 c) (λ k low e. other (inside_one c [] (encode_utf8 c) k (sym (append-nil (encode_utf8 c))) low (omega (arith, e)) ∙ e))

one_bare : (c : ℕ) (by : Bool) → is_escaped c ≡ by → c == 34 ≡ false → has_quote (encode_utf8_all (if by then escape_default c else c ∷ [])) ≡ false
one_bare c true by other =
    ap has_quote
    (encoded (escape_default c) (first_of (list_all is_ascii (escape_default c)) (skips false (escape_default c)) (passed is_skipped all_skipped c by)))
    ∙ skips_none (escape_default c) (passed is_bare_escape all_bare c by)
one_bare c false by other = ap has_quote (append-nil (encode_utf8 c)) ∙ char_bare c (λ e. true≢false (sym (eq-eqb c 34 e) ∙ other))

chars_bare : (cs : List ℕ) → list_any (λ c. c == 34) cs ≡ false → has_quote (encode_utf8_all (flat_map escape cs)) ≡ false
chars_bare [] e = refl
chars_bare (c ∷ cs) e =
    let two = neither (c == 34) (list_any (λ c. c == 34) cs) e in
    ap has_quote (encodes-append (escape c) (flat_map escape cs))
    ∙ has_none (encode_utf8_all (escape c)) (encode_utf8_all (flat_map escape cs)) (one_bare c (is_escaped c) refl two.0) (chars_bare cs two.1)

-- a name without a quote is written without one
pub name_bare : (name : List ℕ) → IsBare name → has_quote (escaped name) ≡ false
name_bare name e = chars_bare (chars name) e

glyph_bare : (d : ℕ) (low : Bool) → ((if low then 48 + d else 87 + d) == 34) ≡ false
glyph_bare d true = ne_eqb (48 + d) 34 (λ e. omega (arith, e))
glyph_bare d false = ne_eqb (87 + d) 34 (λ e. omega (arith, e))

chosen_bare : (b : Bool) (xs ys : List ℕ) → has_quote xs ≡ false → has_quote ys ≡ false → has_quote (if b then xs else ys) ≡ false
chosen_bare true xs ys p q = p
chosen_bare false xs ys p q = q

digits_bare : (k n : ℕ) (acc : List ℕ) → has_quote acc ≡ false → has_quote (digits_onto k 10 false n acc) ≡ false
digits_bare zero n acc h = h
digits_bare (suc k) n acc h =
    let more = digit_glyph false (n % 10) ∷ acc in
    let head : has_quote more ≡ false = ap (λ (t : Bool). t || has_quote acc) (glyph_bare (n % 10) (nat_lt (n % 10) 10)) ∙ h in
    chosen_bare (n / 10 == 0) more (digits_onto k 10 false (n / 10) more) head (digits_bare k (n / 10) more head)

pub decimal_bare : (n : ℕ) → has_quote (decimal n) ≡ false
unfolding digits
decimal_bare n = digits_bare 64 n [] refl

signed_bare : (z : ℤ) → has_quote (signed_decimal z) ≡ false
signed_bare (pos n) = decimal_bare n
signed_bare (negsuc n) = decimal_bare (suc n)

verbosity_bare : (x : Verbosity) → has_quote (verbosity_text x) ≡ false
verbosity_bare verbosity.Error = refl
verbosity_bare verbosity.Warn = refl
verbosity_bare verbosity.Info = refl
verbosity_bare verbosity.Debug = refl
verbosity_bare verbosity.Trace = refl

pub level_bare : (level : Level) → has_quote (level_text level) ≡ false
level_bare level = verbosity_bare level.0

flag_bare : (b : Bool) → has_quote (flag_text b) ≡ false
flag_bare true = refl
flag_bare false = refl

-- ---- fields

pub tells_value : (x : FieldValue) → IsBareFloat x → Tells (shown_text x) (text_in x)
tells_value (value.Text t) e = tells_quoted t.now
tells_value (value.U64 n) e = tells_bare (decimal n) (decimal_bare n)
tells_value (value.I64 n) e = tells_bare (signed_decimal n) (signed_bare n)
tells_value (value.U128 n) e = tells_bare (decimal n) (decimal_bare n)
tells_value (value.I128 n) e = tells_bare (signed_decimal n) (signed_bare n)
tells_value (value.F64 f) e = tells_bare (float_text f) e
tells_value (value.Bool b) e = tells_bare (flag_text b) (flag_bare b)
tells_value value.Absent e = tells_nothing

tells_field : (name : List ℕ) (x : FieldValue) → IsBare name → IsBareFloat x → Tells (field_text name x) (text_in x)
tells_field name x e f =
    tells_more (codes " " ++ escaped name ++ codes "=") (shown_text x) (text_in x)
    (has_none (codes " " ++ escaped name) (codes "=") (has_none (codes " ") (escaped name) refl (name_bare name e)) refl)
    (tells_value x f)

-- each member's text tells what is said of it
pub tells_each : {X : Type 0} (f : X → List ℕ) (g : X → List (List ℕ)) (xs : List X)
    → AllByRecursion (λ x. Tells (f x) (g x)) xs → Tells (flat_map f xs) (flat_map g xs)
tells_each f g [] h = tells_nothing
tells_each f g (x ∷ xs) h = tells_both (f x) (flat_map f xs) (g x) (flat_map g xs) h.0 (tells_each f g xs h.1)

pub tells_any : {X : Type 0} (f : X → List ℕ) (g : X → List (List ℕ)) → ((x : X) → Tells (f x) (g x)) → (xs : List X)
    → Tells (flat_map f xs) (flat_map g xs)
tells_any f g h [] = tells_nothing
tells_any f g h (x ∷ xs) = tells_both (f x) (flat_map f xs) (g x) (flat_map g xs) (h x) (tells_any f g h xs)

all_tell : (fields : List (Bor (List ℕ) × FieldValue)) → AllByRecursion (λ f. IsBare f.0.now × IsBareFloat f.1) fields
    → AllByRecursion (λ f. Tells (field_text f.0.now f.1) (text_in f.1)) fields
all_tell [] h = tt
all_tell (f ∷ fields) h = (tells_field f.0.now f.1 h.0.0 h.0.1, all_tell fields h.1)

tells_fields : (values : List (Bor (List ℕ) × FieldValue)) → AreBare values → Tells (fields_text values) (texts_in values)
tells_fields values h = tells_each (λ f. field_text f.0.now f.1) (λ f. text_in f.1) (present values) (all_tell (present values) h)

-- ---- what is put round texts

-- a text tells the same without a byte in front of it that is no quote
pub tells_without : (lead b : ℕ) (bytes : List ℕ) (told : List (List ℕ)) (q : Bool) → b == lead ≡ q → lead == 34 ≡ false
    → Tells (b ∷ bytes) told → Tells (if q then bytes else b ∷ bytes) told
tells_without lead b bytes told false is other h = h
tells_without lead b bytes told true is other h =
    let none = ap (λ n. n == 34) (eqb-true b lead is) ∙ other in
    λ rest. sym (ap (λ (q : Bool). between (if q then Inside else Outside) (bytes ++ rest)) none) ∙ h rest

tells_unled : (text : List ℕ) (told : List (List ℕ)) → Tells text told → Tells (bare text) told
tells_unled [] told h = h
tells_unled (b ∷ bytes) told h = tells_without 32 b bytes told (b == 32) refl refl h

tells_braced : (text : List ℕ) (told : List (List ℕ)) → Tells text told → Tells (braced text) told
tells_braced [] told h = h
tells_braced (b ∷ bytes) told h =
    tells_more (codes "{") (bare (b ∷ bytes) ++ codes "}") told refl (tells_then (bare (b ∷ bytes)) (codes "}") told (tells_unled (b ∷ bytes) told h) refl)

pub tells_spaced : (text : List ℕ) (told : List (List ℕ)) → Tells text told → Tells (spaced text) told
tells_spaced [] told h = h
tells_spaced (b ∷ bytes) told h = tells_then (b ∷ bytes) (codes " ") told h refl

-- ---- a line

tells_label : (name values : List ℕ) (told : List (List ℕ)) → IsBare name → Tells values told → Tells (label_text name values) told
tells_label name values told e h =
    tells_then (escaped name ++ braced values) (codes ":") told
    (tells_more (escaped name) (braced values) told (name_bare name e) (tells_braced values told h)) refl

-- a lane tells its name, if it has one
pub tells_name : (name : List ℕ) (lane : ℕ) → Tells (name_or_number name lane) (name_told name)
tells_name [] lane = tells_bare (decimal lane) (decimal_bare lane)
tells_name (b ∷ bytes) lane = tells_quoted (b ∷ bytes)

pub tells_lane : (names : Naming) (lane : ℕ) → Tells (lane_text names lane) (name_told (names lane))
tells_lane names lane = tells_name (names lane) lane

tells_begun : (names : Naming) (lane : ℕ) (level : Level) → Tells (begun_text names lane level) (name_told (names lane))
tells_begun names lane level =
    let start = lane_text names lane in
    let told = name_told (names lane) in
    tells_then (start ++ codes " " ++ level_text level) (codes " ") told
    (tells_then (start ++ codes " ") (level_text level) told (tells_then start (codes " ") told (tells_lane names lane) refl) (level_bare level)) refl

pub tells_rest : (m : Metadata) (values : List (Bor (List ℕ) × FieldValue)) → IsBareSite m → AreBare values → Tells (rest_text m values) (texts_in values)
tells_rest m values site fields =
    let target = escaped (target_of m) in
    let name = escaped (name_of m) in
    tells_then (target ++ codes ": " ++ name ++ fields_text values) (codes "\n") (texts_in values)
    (tells_more (target ++ codes ": " ++ name) (fields_text values) (texts_in values)
    (has_none (target ++ codes ": ") name (has_none target (codes ": ") (name_bare (target_of m) site.target) refl) (name_bare (name_of m) site.name))
    (tells_fields values fields)) refl

tells_around : (e : Event) (v : View) (given : SpanValues) → IsBareEvent e v given
    → Tells (around_text e v (λ x. fields_text (given x))) (flat_map (λ x. texts_in (given x)) (reverse (spans_round e v)))
tells_around e v given is =
    tells_any (seen_label v (λ x. fields_text (given x))) (λ x. texts_in (given x))
    (λ x. tells_label (option_map_or (λ s. name_of s.metadata) (get v.spans x) []) (fields_text (given x)) (texts_in (given x)) (is.spans x)
    (tells_fields (given x) (is.values x)))
    (reverse (spans_round e v))

tells_line : (names : Naming) (e : Event) (v : View) (given : SpanValues) → IsBareEvent e v given
    → Tells (line_of names e v given) (texts_told names e v given)
tells_line names e v given is =
    let told = flat_map (λ (x : ℕ). texts_in (given x)) (reverse (spans_round e v)) in
    let name = name_told (names v.lane) in
    let begun = begun_text names v.lane (level_of (event_metadata e)) in
    let around = around_text e v (λ (x : ℕ). fields_text (given x)) in
    tells_both (begun ++ spaced around) (rest_text (event_metadata e) (event_values e)) (name ++ told) (texts_in (event_values e))
    (tells_both begun (spaced around) name told
    (tells_begun names v.lane (level_of (event_metadata e))) (tells_spaced around told (tells_around e v given is)))
    (tells_rest (event_metadata e) (event_values e) is.site is.fields)

-- what a text tells is what stands between its quotes
pub told_between : (text : List ℕ) (told : List (List ℕ)) → Tells text told → between Outside text ≡ quoted_one_by_one told
told_between text told h = ap (between Outside) (sym (append-nil text)) ∙ h [] ∙ append-nil (quoted_one_by_one told)

-- ---- texts that stand so between quotes are the same

abbrev quote : List ℕ
quote = codes "\\\""

abbrev is_no_quote : ℕ → Bool
is_no_quote c = not (starts quote (escape_default c)) && not (starts (escape_default c) quote)

none_quotes : Passes is_no_quote
none_quotes = record { slash = refl; low = refl; high = refl; letter = refl; marks = refl; lines = refl; apart = refl }

abbrev inside_by : Bool → ℕ → List ℕ
inside_by q c = if q then quote else escape c

-- a quote behind a backslash is no other character's
no_quote_there : (d : ℕ) (r s : List ℕ) (q : Bool) → is_escaped d ≡ q → (quote ++ r) ≢ (by q d ++ s)
no_quote_there d r s true is e =
    let both = passed is_no_quote none_quotes d is in
    elim (one_starts quote (escape_default d) r s e) [
      | inl h ↦ true≢false (sym h
          ∙ refuted (starts quote (escape_default d)) (first_of (not (starts quote (escape_default d))) (not (starts (escape_default d) quote)) both))
      | inr h ↦ true≢false (sym h
          ∙ refuted (starts (escape_default d) quote) (second_of (not (starts quote (escape_default d))) (not (starts (escape_default d) quote)) both))
    ]
no_quote_there d r s false is e =
    let same : 92 ≡ d = cons_head e in
    true≢false (ap is_escaped same ∙ is)

one_inside : (c d : ℕ) (r s : List ℕ) (p q : Bool) → c == 34 ≡ p → d == 34 ≡ q → inside_by p c ++ r ≡ inside_by q d ++ s → c ≡ d
one_inside c d r s true true p q e = eqb-true c 34 p ∙ sym (eqb-true d 34 q)
one_inside c d r s true false p q e = absurd (no_quote_there d r s (is_escaped d) refl e)
one_inside c d r s false true p q e = absurd (no_quote_there c s r (is_escaped c) refl (sym e))
one_inside c d r s false false p q e = one_alike c d r s (is_escaped c) (is_escaped d) refl refl e

inside_filled : (c : ℕ) (r : List ℕ) (p : Bool) → c == 34 ≡ p → (inside_by p c ++ r) ≢ []
inside_filled c r true is e = cons_nil e
inside_filled c r false is e = filled c r (is_escaped c) refl e

alike_inside : (cs ds : List ℕ) → flat_map quote_inside cs ≡ flat_map quote_inside ds → cs ≡ ds
alike_inside [] [] e = refl
alike_inside [] (d ∷ ds) e = absurd (inside_filled d (flat_map quote_inside ds) (d == 34) refl (sym e))
alike_inside (c ∷ cs) [] e = absurd (inside_filled c (flat_map quote_inside cs) (c == 34) refl e)
alike_inside (c ∷ cs) (d ∷ ds) e =
    let same = one_inside c d (flat_map quote_inside cs) (flat_map quote_inside ds) (c == 34) (d == 34) refl refl e in
    let rest : flat_map quote_inside cs ≡ flat_map quote_inside ds =
    append_cancel_left (quote_inside c)
    (flat_map quote_inside cs) (flat_map quote_inside ds) (e ∙ ap (λ x. quote_inside x ++ flat_map quote_inside ds) (sym same)) in
    ap (λ x. x ∷ cs) same ∙ ap (λ xs. d ∷ xs) (alike_inside cs ds rest)

same_inside : (text other : List ℕ) → IsUtf8 text → IsUtf8 other → inside_quotes text ≡ inside_quotes other → text ≡ other
same_inside text other u v e =
    let same = alike_inside (chars text) (chars other) (encodes_same (flat_map quote_inside (chars text)) (flat_map quote_inside (chars other)) e) in
    sym (encodes-chars text u) ∙ ap encode_utf8_all same ∙ encodes-chars other v

ended : (xs : List ℕ) (y : ℕ) (ys : List ℕ) → (xs ++ y ∷ ys) ≢ []
ended [] y ys e = cons_nil e
ended (x ∷ xs) y ys e = cons_nil e

-- texts that stand alike between quotes are the same
pub same_texts : (texts others : List (List ℕ)) → AllByRecursion IsUtf8 texts → AllByRecursion IsUtf8 others
    → quoted_one_by_one texts ≡ quoted_one_by_one others → texts ≡ others
same_texts [] [] u v e = refl
same_texts [] (t ∷ others) u v e =
    absurd (ended (inside_quotes t) 34 (quoted_one_by_one others) (sym (e ∙ append_assoc (inside_quotes t) (codes "\"") (quoted_one_by_one others))))
same_texts (t ∷ texts) [] u v e =
    absurd (ended (inside_quotes t) 34 (quoted_one_by_one texts) (sym (append_assoc (inside_quotes t) (codes "\"") (quoted_one_by_one texts)) ∙ e))
same_texts (t ∷ texts) (o ∷ others) u v e =
    let mine = quoted_one_by_one texts in
    let theirs = quoted_one_by_one others in
    let behind : mine ≡ theirs = sym (quoted_ends t mine) ∙ ap (behind_quote false) (begun t mine ∙ e ∙ sym (begun o theirs)) ∙ quoted_ends o theirs in
    let inside : inside_quotes t ≡ inside_quotes o =
    append_cancel_right (inside_quotes t) (inside_quotes o) (codes "\"")
    (append_cancel_right (inside_quotes t ++ codes "\"")
    (inside_quotes o ++ codes "\"") mine (e ∙ ap (λ x. (inside_quotes o ++ codes "\"") ++ x) (sym behind))) in
    ap (λ x. x ∷ texts) (same_inside t o u.0 v.0 inside) ∙ ap (λ xs. o ∷ xs) (same_texts texts others u.1 v.1 behind)
  where
    begun : (t rest : List ℕ) → drop 1 (quoted t ++ rest) ≡ (inside_quotes t ++ codes "\"") ++ rest
    begun t rest = refl

pub lines_tell : LinesTellTheirTexts
lines_tell = record {
  told = λ names e v given is. told_between (line_of names e v given) (texts_told names e v given) (tells_line names e v given is);
  same = λ names other e f v w given others is are u x same. same_texts (texts_told names e v given) (texts_told other f w others) u x
      (sym (told_between (line_of names e v given) (texts_told names e v given) (tells_line names e v given is)) ∙ ap (between Outside) same
      ∙ told_between (line_of other f w others) (texts_told other f w others) (tells_line other f w others are));
}
