-- Lower-case hex digits.
use Rattle.std.proofs.Common.{◌≡◌, ◌∙◌, ◌<◌, ◌≤◌, ◌+◌, ◌*◌, ◌/◌, ◌%◌, ◌==◌, ◌&&◌, ◌||◌, inl, inr, Bool, true, false, ℕ, zero, suc, List, [], ◌∷◌, ◌++◌, Option}
use Rattle.std.proofs.Common.{None, Some, Result, Ok, Err, ap, arith, drop, if◌then◌else◌, is_none, length, nat_lt, not, refl, slice_index, subst, sym, take}
use Rattle.std.proofs.Common.{unwrap_or}
use Rattle.std.proofs.Math.Seq.{drop-append_seam, take-append_seam}
use Rattle.std.proofs.lemmas.Bool.{and_parts, cases_lt, eqb-true, or_parts}
use Rattle.std.proofs.lemmas.List.{length-append, take-append-drop}
use Rattle.std.proofs.lemmas.Str.{IsUtf8-from_ascii}
use Rattle.std.proofs.lemmas.Str.Ascii.{IsAscii-cons, IsAscii-nil}
use Rattle.std.specs.Char.{is_ascii_uppercase}
use Rattle.std.specs.List.{list_all, list_any}
use Rattle.std.specs.Option.{option_map}
use Rattle.std.specs.Prelude.{IsOk, OnOk}
use Rattle.std.specs.Result.{result_ok, result_unwrap_or}
use Rattle.std.specs.Str.{IsAscii, IsUtf8}
use Rattle.hex.specs.Hex.{IsBytes, decode_pairs, decode_sized, digit_or_error, encode_lower, encode_with, hex_digit_value, lower_digits, pair_value, value_at}
use Rattle.hex.specs.Hex.{◌>>=◌}
use Rattle.hex.specs.declared.error.FromHexError.{FromHexError}
use Rattle.hex.proofs.HexLemmas.{IsAscii-encode_with, decode_of-even, decode_of-ok, decode_sized-encode_lower, decode_sized-ok, decode_sized-twice}
use Rattle.hex.proofs.HexLemmas.{length-encode_with}
use Rattle.span_otlp.specs.private.Reading.{Found, bytes_behind_dash, bytes_in_front, lower_bytes}

-- the first n numbers pass a test
abbrev all_pass : (ℕ → Bool) → ℕ → Bool
all_pass p zero = true
all_pass p (suc n) = p n && all_pass p n

passes_at : (p : ℕ → Bool) (n k : ℕ) → all_pass p n ≡ true → k < n → p k ≡ true
passes_at p zero k h below = absurd (omega arith)
passes_at p (suc n) k h below =
    let parts = and_parts (p n) (all_pass p n) h in
    elim (cases_lt k n) [
      | inl less ↦ passes_at p n k parts.1 less
      | inr top ↦ let e : n ≡ k = omega arith in subst (λ (j : ℕ). p j ≡ true) e parts.0
    ]

-- a code is no digit in lower case, or is that of its value
abbrev is_told : Bool → Option ℕ → ℕ → Bool
is_told upper found c = upper || is_none found || (slice_index lower_digits (unwrap_or found 0) == c)

abbrev is_told_at : ℕ → Bool
is_told_at c = is_told (is_ascii_uppercase c) (hex_digit_value c) c

told : (upper : Bool) (found : Option ℕ) (c v : ℕ) → upper ≡ false → found ≡ Some v → is_told upper found c ≡ true → slice_index lower_digits v ≡ c
told true found c v h e t = cc h
told false None c v h e t = cc e
told false (Some w) c v h e t =
    let same : w ≡ v = ap (λ (o : Option ℕ). unwrap_or o 0) e in
    ap (slice_index lower_digits) (sym same) ∙ eqb-true (slice_index lower_digits w) c t

no_digit : (c : ℕ) → 103 ≤ c → hex_digit_value c ≡ None
no_digit c h = grind (arith)

digit_small : (c v : ℕ) → hex_digit_value c ≡ Some v → v < 16
digit_small c v h = grind (arith)

-- a digit in lower case is that of its value
lower_digit : (c v : ℕ) → is_ascii_uppercase c ≡ false → hex_digit_value c ≡ Some v → slice_index lower_digits v ≡ c
lower_digit c v low e =
    elim (cases_lt c 103) [
      | inl below ↦ told (is_ascii_uppercase c) (hex_digit_value c) c v low e (passes_at is_told_at 103 c refl below)
      | inr above ↦ let none = no_digit c above in cc (sym none ∙ e)
    ]

bind_ok : {A B : Type 0} (r : Result A FromHexError) (f : A → Result B FromHexError) (y : B)
    → (r >>= f) ≡ Ok y → (x : A) × (r ≡ Ok x) × (f x ≡ Ok y)
bind_ok (Ok x) f y h = (x, refl, h)
bind_ok (Err e) f y h = cc h

digit_ok : (c i : ℕ) (o : Option ℕ) (v : ℕ) → digit_or_error c i o ≡ Ok v → o ≡ Some v
digit_ok c i (Some w) v h = ap Some (ap (λ (r : Result ℕ FromHexError). result_unwrap_or r 0) h)
digit_ok c i None v h = cc h

halves : (u v b : ℕ) → u * 16 + v ≡ b → v < 16 → (b / 16 ≡ u) × (b % 16 ≡ v)
halves u v b e small = (omega arith, omega arith)

-- digits in lower case are those of the bytes that they spell
pairs_back : (i : ℕ) (s bytes : List ℕ) → decode_pairs i s ≡ Ok bytes → list_any is_ascii_uppercase s ≡ false → encode_lower bytes ≡ s
unfolding decode_pairs encode_with
pairs_back i [] bytes h low = ap encode_lower (sym (ap (λ (r : Result (List ℕ) FromHexError). result_unwrap_or r []) h))
pairs_back i (a ∷ []) bytes h low = cc h
pairs_back i (a ∷ b ∷ rest) bytes h low =
    let p0 = bind_ok (pair_value a b i) _ bytes h in
    let p1 = bind_ok (value_at a i) _ p0.0 p0.1 in
    let p2 = bind_ok (value_at b (i + 1)) _ p0.0 p1.2 in
    let p3 = bind_ok (decode_pairs (i + 2) rest) _ bytes p0.2 in
    let whole : p0.0 ∷ p3.0 ≡ bytes = ap (λ (r : Result (List ℕ) FromHexError). result_unwrap_or r []) p3.2 in
    let byte : p1.0 * 16 + p2.0 ≡ p0.0 = ap (λ (r : Result ℕ FromHexError). result_unwrap_or r 0) p2.2 in
    let first = or_parts (is_ascii_uppercase a) (list_any is_ascii_uppercase (b ∷ rest)) low in
    let second = or_parts (is_ascii_uppercase b) (list_any is_ascii_uppercase rest) first.1 in
    let u = digit_ok a i (hex_digit_value a) p1.0 p1.1 in
    let v = digit_ok b (i + 1) (hex_digit_value b) p2.0 p2.1 in
    let parts = halves p1.0 p2.0 p0.0 byte (digit_small b p2.0 v) in
    let high : slice_index lower_digits (p0.0 / 16) ≡ a = ap (slice_index lower_digits) parts.0 ∙ lower_digit a p1.0 first.0 u in
    let under : slice_index lower_digits (p0.0 % 16) ≡ b = ap (slice_index lower_digits) parts.1 ∙ lower_digit b p2.0 second.0 v in
    ap encode_lower (sym whole)
    ∙ ap (λ (c : ℕ). c ∷ slice_index lower_digits (p0.0 % 16) ∷ encode_lower p3.0) high
    ∙ ap (λ (c : ℕ). a ∷ c ∷ encode_lower p3.0) under ∙ ap (λ (cs : List ℕ). a ∷ b ∷ cs) (pairs_back (i + 2) rest p3.0 p3.1 second.1)

opened : (upper : Bool) (r : Result (List ℕ) FromHexError) (bs : List ℕ)
    → (if upper then None else result_ok r) ≡ Some bs → (upper ≡ false) × (r ≡ Ok bs)
opened true r bs h = cc h
opened false (Ok xs) bs h = (refl, ap Ok (ap (λ (o : Option (List ℕ)). unwrap_or o []) h))
opened false (Err e) bs h = cc h

-- n bytes that a text spells in lower case
pub record Spelled (n : ℕ) (digits bs : List ℕ) : Type 0 where
  pub same : encode_lower bs ≡ digits
  pub count : length bs ≡ n
  pub bytes : IsBytes bs

same_half : (l m n : ℕ) → l ≡ 2 * m → l ≡ 2 * n → m ≡ n
same_half l m n e f = omega arith

lower_sound : (n : ℕ) (digits bs : List ℕ) → lower_bytes n digits ≡ Some bs → Spelled n digits bs
lower_sound n digits bs h =
    let parts = opened (list_any is_ascii_uppercase digits) (decode_sized digits n) bs h in
    let len = decode_sized-ok digits n bs parts.1 in
    let decoded = sym (decode_sized-twice digits n len) ∙ parts.1 in
    let known = decode_of-ok digits bs decoded in
    record {
      same = pairs_back 0 digits bs (sym (decode_of-even digits known.0) ∙ decoded) parts.0;
      count = same_half (length digits) (length bs) n known.2 len;
      bytes = known.3;
    }

abbrev is_low_at : ℕ → Bool
is_low_at d = not (is_ascii_uppercase (slice_index lower_digits d))

not_is : (b : Bool) → not b ≡ true → b ≡ false
not_is true h = cc h
not_is false h = refl

low_at : (d : ℕ) → d < 16 → is_ascii_uppercase (slice_index lower_digits d) ≡ false
low_at d h = not_is (is_ascii_uppercase (slice_index lower_digits d)) (passes_at is_low_at 16 d refl h)

both_false : (a b c : Bool) → a ≡ false → b ≡ false → c ≡ false → (a || (b || c)) ≡ false
both_false a b c e f g = rw (e, f, g) refl

none_upper : (bs : List ℕ) → IsBytes bs → list_any is_ascii_uppercase (encode_lower bs) ≡ false
unfolding encode_with
none_upper [] h = refl
none_upper (b ∷ rest) h =
    let fits : b < 256 = h 0 in
    both_false (is_ascii_uppercase (slice_index lower_digits (b / 16))) (is_ascii_uppercase (slice_index lower_digits (b % 16)))
    (list_any is_ascii_uppercase (encode_lower rest)) (low_at (b / 16) (omega (arith, fits))) (low_at (b % 16) (omega arith))
    (none_upper rest (λ i. h (suc i)))

lower_complete : (n : ℕ) (bs : List ℕ) → length bs ≡ n → IsBytes bs → lower_bytes n (encode_lower bs) ≡ Some bs
lower_complete n bs len h =
    ap (λ (b : Bool). if b then None else result_ok (decode_sized (encode_lower bs) n)) (none_upper bs h)
    ∙ ap (λ (r : Result (List ℕ) FromHexError). result_ok r) (decode_sized-encode_lower bs n len h)

-- n bytes that are spelled in front of a text, and what follows them
pub record InFront (n : ℕ) (text : List ℕ) (found : Found) : Type 0 where
  pub same : text ≡ encode_lower found.0 ++ found.1
  pub count : length found.0 ≡ n
  pub bytes : IsBytes found.0

-- what is mapped, and what it is mapped from
mapped : (o : Option (List ℕ)) (rest : List ℕ) (found : Found) → option_map (λ bs. (bs, rest)) o ≡ Some found
    → (o ≡ Some found.0) × (rest ≡ found.1)
mapped None rest found h = cc h
mapped (Some bs) rest found h =
    let same : (bs, rest) ≡ found = ap (λ (o : Option Found). unwrap_or o ([], [])) h in
    (ap (λ (f : Found). Some f.0) same, ap (λ (f : Found). f.1) same)

not_short : (short : Bool) (o : Option Found) (found : Found) → (if short then None else o) ≡ Some found → o ≡ Some found
not_short true o found h = cc h
not_short false o found h = h

pub front_sound : (n : ℕ) (text : List ℕ) (found : Found) → bytes_in_front n text ≡ Some found → InFront n text found
front_sound n text found h =
    let there = not_short (nat_lt (length text) (2 * n)) _ found h in
    let parts = mapped (lower_bytes n (take (2 * n) text)) (drop (2 * n) text) found there in
    let known = lower_sound n (take (2 * n) text) found.0 parts.0 in
    record {
      same = sym (take-append-drop (2 * n) text) ∙ ap (λ (front : List ℕ). front ++ drop (2 * n) text) (sym known.same)
          ∙ ap (λ (rest : List ℕ). encode_lower found.0 ++ rest) parts.1;
      count = known.count;
      bytes = known.bytes;
    }

not_less : (a b : ℕ) → b ≤ a → nat_lt a b ≡ false
not_less a b h = grind arith

long_enough : (a b : ℕ) → nat_lt (a + b) a ≡ false
long_enough a b = grind arith

pub front_complete : (n : ℕ) (bs rest : List ℕ) → length bs ≡ n → IsBytes bs → bytes_in_front n (encode_lower bs ++ rest) ≡ Some (bs, rest)
front_complete n bs rest count h =
    let digits = encode_lower bs in
    let text = digits ++ rest in
    let len : 2 * n ≡ length digits = ap (λ (m : ℕ). 2 * m) (sym count) ∙ sym (length-encode_with lower_digits bs) in
    let long : nat_lt (length text) (2 * n) ≡ false =
    ap (λ (m : ℕ). nat_lt m (2 * n)) (length-append digits rest)
    ∙ ap (λ (m : ℕ). nat_lt (length digits + length rest) m) len ∙ long_enough (length digits) (length rest) in
    let front : take (2 * n) text ≡ digits = ap (λ (m : ℕ). take m text) len ∙ take-append_seam digits rest in
    let back : drop (2 * n) text ≡ rest = ap (λ (m : ℕ). drop m text) len ∙ drop-append_seam digits rest in
    ap (λ (short : Bool). if short then None else option_map (λ bytes. (bytes, drop (2 * n) text)) (lower_bytes n (take (2 * n) text))) long
    ∙ ap (λ (ds : List ℕ). option_map (λ bytes. (bytes, drop (2 * n) text)) (lower_bytes n ds)) front
    ∙ ap (λ (o : Option (List ℕ)). option_map (λ bytes. (bytes, drop (2 * n) text)) o) (lower_complete n bs count h)
    ∙ ap (λ (r : List ℕ). Some (bs, r)) back

-- what digits in lower case spell in front of a text is found
pub front_found : (n : ℕ) (text digits rest bs : List ℕ) → 2 * n ≤ length text → digits ≡ take (2 * n) text → rest ≡ drop (2 * n) text
    → list_any is_ascii_uppercase digits ≡ false → result_ok (decode_sized digits n) ≡ Some bs → bytes_in_front n text ≡ Some (bs, rest)
front_found n text digits rest bs long front back low decoded =
    ap (λ (short : Bool). if short then None else option_map (λ bytes. (bytes, drop (2 * n) text)) (lower_bytes n (take (2 * n) text)))
    (not_less (length text) (2 * n) long)
    ∙ ap (λ (ds : List ℕ). option_map (λ bytes. (bytes, drop (2 * n) text)) (lower_bytes n ds)) (sym front)
    ∙ ap (λ (upper : Bool). option_map (λ bytes. (bytes, drop (2 * n) text)) (if upper then None else result_ok (decode_sized digits n))) low
    ∙ ap (λ (o : Option (List ℕ)). option_map (λ bytes. (bytes, drop (2 * n) text)) o) decoded
    ∙ ap (λ (r : List ℕ). Some (bs, r)) (sym back)

-- n bytes that are spelled behind a dash, and what follows them
pub record BehindDash (n : ℕ) (text : List ℕ) (found : Found) : Type 0 where
  pub same : text ≡ 45 ∷ (encode_lower found.0 ++ found.1)
  pub count : length found.0 ≡ n
  pub bytes : IsBytes found.0

dashed : (b : Bool) (o : Option Found) (found : Found) → (if b then o else None) ≡ Some found → (b ≡ true) × (o ≡ Some found)
dashed true o found h = (refl, h)
dashed false o found h = cc h

pub dash_sound : (n : ℕ) (text : List ℕ) (found : Found) → bytes_behind_dash n text ≡ Some found → BehindDash n text found
dash_sound n [] found h = cc h
dash_sound n (c ∷ digits) found h =
    let parts = dashed (c == 45) (bytes_in_front n digits) found h in
    let known = front_sound n digits found parts.1 in
    record {
      same = ap (λ (d : ℕ). d ∷ digits) (eqb-true c 45 parts.0) ∙ ap (λ (ds : List ℕ). 45 ∷ ds) known.same;
      count = known.count;
      bytes = known.bytes;
    }

pub dash_complete : (n : ℕ) (bs rest : List ℕ) → length bs ≡ n → IsBytes bs
    → bytes_behind_dash n (45 ∷ (encode_lower bs ++ rest)) ≡ Some (bs, rest)
dash_complete n bs rest count h = front_complete n bs rest count h

small : (c : ℕ) → nat_lt c 128 ≡ true → c < 128
small c h = grind arith

ascii_by_test : (xs : List ℕ) → list_all (λ c. nat_lt c 128) xs ≡ true → IsAscii xs
ascii_by_test [] h = IsAscii-nil
ascii_by_test (c ∷ xs) h =
    let parts = and_parts (nat_lt c 128) (list_all (λ c. nat_lt c 128) xs) h in IsAscii-cons c xs (small c parts.0) (ascii_by_test xs parts.1)

lower_is_ascii : IsAscii lower_digits
lower_is_ascii = ascii_by_test lower_digits refl

-- digits are a text
pub lower_is_text : (bs : List ℕ) → IsUtf8 (encode_lower bs)
lower_is_text bs = IsUtf8-from_ascii (encode_lower bs) (IsAscii-encode_with lower_digits bs lower_is_ascii)

-- what holds of an `Ok`, where it is one
pub of_ok : {T E : Type 0} (r : Result T E) (P : Type 0) → IsOk r → OnOk r P → P
of_ok (Ok x) P ok h = h
of_ok (Err e) P ok h = cc ok
