-- What readers of JSON make of bytes inside a string.
use Rattle.std.proofs.Common.{◌≡◌, ◌⊎◌, ℕ, suc, ◌+◌, ◌*◌, ◌/◌, ◌%◌, ◌<◌, ◌≤◌, Bool, true, false, cond, ◌&&◌, List, [], ◌∷◌, ◌++◌, length, get_or}
use Rattle.std.proofs.Common.{Option, Some, None, inl, inr, refl, sym, ap, ◌∙◌, subst, arith, append_assoc}
use Rattle.std.proofs.lemmas.Bool.{cases_eq, cases_lt, ne_eqb, le-ltb, lt-ltb}
use Rattle.std.proofs.lemmas.Bool.Decides.{nat_tests}
use Rattle.std.proofs.lemmas.Str.{digit_value-digit_char, encode_ascii}
use Rattle.std.specs.Char.{digit_char, digit_value}
use Rattle.std.specs.Prelude.{nat_lt, nat_le}
use lib.Utf8.{encode}
use Rattle.json.specs.Text.{content, plain, prepend, code_unit, short_escape}
use Rattle.json.specs.Word.{is_operator, is_space}
use Rattle.json.specs.Lex.{Lexeme, Mode, lex, lex_byte, in_string, operator, space, other}
use Rattle.json.specs.Print.{escape_byte}
use Rattle.json.proofs.Printed.Strings.{escape_byte_plain}
use Rattle.span_stream.specs.Inert.{unicode_escape}

-- both readers take these bytes, whatever stands behind them, for those
pub record Spells (bytes means : List ℕ) : Type 0 where
  pub read : (r : List ℕ) → content plain (bytes ++ r) ≡ prepend means (content plain r)
  pub lexed : (r : List ℕ) → lex in_string (bytes ++ r) ≡ lex in_string r

prepend_nothing : (o : Option (List ℕ)) → o ≡ prepend [] o
prepend_nothing None = refl
prepend_nothing (Some s) = refl

prepend_both : (a b : List ℕ) (o : Option (List ℕ)) → prepend a (prepend b o) ≡ prepend (a ++ b) o
prepend_both a b None = refl
prepend_both a b (Some s) = ap Some (sym (append_assoc a b s))

pub spells_nothing : Spells [] []
spells_nothing = record { read = λ r. prepend_nothing (content plain r); lexed = λ r. refl }

pub spells_both : (a b m n : List ℕ) → Spells a m → Spells b n → Spells (a ++ b) (m ++ n)
spells_both a b m n p q = record {
  read = λ r. ap (content plain) (append_assoc a b r) ∙ p.read (b ++ r) ∙ ap (prepend m) (q.read r) ∙ prepend_both m n (content plain r);
  lexed = λ r. ap (lex in_string) (append_assoc a b r) ∙ p.lexed (b ++ r) ∙ q.lexed r;
}

-- ---- bytes that stand for themselves

stays_inside : (o s : Bool) (x : ℕ) (r : List ℕ) (k : Mode → List Lexeme) → lex_byte in_string (cond o operator (cond s space other)) x r k ≡ k in_string
stays_inside true s x r k = refl
stays_inside false true x r k = refl
stays_inside false false x r k = refl

pub spells_byte : (x : ℕ) → (x ≡ 34 → ⊥) → (x ≡ 92 → ⊥) → 32 ≤ x → Spells (x ∷ []) (x ∷ [])
unfolding content lex
spells_byte x q b l = record {
  read = λ r. rw (ne_eqb x 34 q, ne_eqb x 92 b, le-ltb x 32 l);
  lexed = λ r. rw (ne_eqb x 34 q, ne_eqb x 92 b) (stays_inside (is_operator x) (is_space x) x r (λ m. lex m r));
}

pub spells_high : (xs : List ℕ) → ((k : ℕ) → k < length xs → 127 ≤ get_or xs k 0) → Spells xs xs
spells_high [] high = spells_nothing
spells_high (x ∷ xs) high =
    let first : 127 ≤ x = high 0 (omega arith) in
    spells_both (x ∷ [])
    xs (x ∷ []) xs (spells_byte x (λ e. omega arith) (λ e. omega arith) (omega arith)) (spells_high xs (λ k below. high (suc k) (omega arith)))

-- ---- escapes by digits

record Digit (d : ℕ) : Type 0 where
  value : digit_value (digit_char d) ≡ d
  read : Spells (digit_char d ∷ []) (digit_char d ∷ [])

digit_own : (d : ℕ) → d < 16 → (digit_char d ≡ 34 → ⊥) × (digit_char d ≡ 92 → ⊥) × (32 ≤ digit_char d)
digit_own d h = elim (cases_lt d 10) [
  | inl low ↦ rw (lt-ltb d 10 low) (λ e. omega arith, λ e. omega arith, omega arith)
  | inr high ↦ rw (le-ltb d 10 high) (λ e. omega arith, λ e. omega arith, omega arith)
]

digit_is : (d : ℕ) → d < 16 → Digit d
digit_is d h =
    let own = digit_own d h in
    record { value = digit_value-digit_char d (omega arith); read = spells_byte (digit_char d) own.0 own.1 own.2 }

unit_of : ℕ → ℕ → ℕ → ℕ → Option ℕ
unit_of a b c d = cond (nat_lt a 16 && nat_lt b 16 && nat_lt c 16 && nat_lt d 16) (Some (a * 4096 + b * 256 + c * 16 + d)) None

unit_found : (a b c d : ℕ) → a < 16 → b < 16 → c < 16 → d < 16
    → code_unit (digit_char a) (digit_char b) (digit_char c) (digit_char d) ≡ Some (a * 4096 + b * 256 + c * 16 + d)
unfolding code_unit unit_of
unit_found a b c d ha hb hc hd =
    (λ i. unit_of ((digit_is a ha).value i) ((digit_is b hb).value i) ((digit_is c hc).value i) ((digit_is d hd).value i))
    ∙ rw (lt-ltb a 16 ha, lt-ltb b 16 hb, lt-ltb c 16 hc, lt-ltb d 16 hd) refl

abbrev digits : ℕ → ℕ → ℕ → ℕ → List ℕ
digits a b c d = digit_char a ∷ digit_char b ∷ digit_char c ∷ digit_char d ∷ []

-- a number below the surrogates is none
no_high : (u : ℕ) → u < 0xd800 → nat_le 0xd800 u ≡ false
no_high u low = grind (arith, nat_tests)

no_low : (u : ℕ) → u < 0xd800 → nat_le 0xdc00 u ≡ false
no_low u low = grind (arith, nat_tests)

pub spells_digits : (a b c d u : ℕ) → a < 16 → b < 16 → c < 16 → d < 16 → a * 4096 + b * 256 + c * 16 + d ≡ u → u < 0xd800
    → Spells (92 ∷ 117 ∷ digits a b c d) (encode u)
unfolding content lex
spells_digits a b c d u ha hb hc hd is low = record {
  read = λ r. rw (unit_found a b c d ha hb hc hd, is, no_high u low, no_low u low) refl;
  lexed = λ r. (digit_is a ha).read.lexed (digit_char b ∷ digit_char c ∷ digit_char d ∷ r) ∙ (digit_is b hb).read.lexed (digit_char c ∷ digit_char d ∷ r)
      ∙ (digit_is c hc).read.lexed (digit_char d ∷ r) ∙ (digit_is d hd).read.lexed r;
}

-- an escape stands for its character
pub spells_escape : (c : ℕ) → c < 0xd800 → Spells (unicode_escape c) (encode c)
spells_escape c low =
    spells_digits (c / 0x1000 % 16) (c / 0x100 % 16) (c / 0x10 % 16) (c / 1 % 16) c (omega arith) (omega arith) (omega arith) (omega arith) (omega arith) low

-- ---- what is written for a byte of ASCII

spells_quote : Spells (escape_byte 34) (34 ∷ [])
unfolding escape_byte content lex short_escape
spells_quote = record { read = λ r. refl; lexed = λ r. refl }

spells_backslash : Spells (escape_byte 92) (92 ∷ [])
unfolding escape_byte content lex short_escape
spells_backslash = record { read = λ r. refl; lexed = λ r. refl }

spells_backspace : Spells (escape_byte 8) (8 ∷ [])
unfolding escape_byte content lex short_escape
spells_backspace = record { read = λ r. refl; lexed = λ r. refl }

spells_tab : Spells (escape_byte 9) (9 ∷ [])
unfolding escape_byte content lex short_escape
spells_tab = record { read = λ r. refl; lexed = λ r. refl }

spells_line_feed : Spells (escape_byte 10) (10 ∷ [])
unfolding escape_byte content lex short_escape
spells_line_feed = record { read = λ r. refl; lexed = λ r. refl }

spells_form_feed : Spells (escape_byte 12) (12 ∷ [])
unfolding escape_byte content lex short_escape
spells_form_feed = record { read = λ r. refl; lexed = λ r. refl }

spells_return : Spells (escape_byte 13) (13 ∷ [])
unfolding escape_byte content lex short_escape
spells_return = record { read = λ r. refl; lexed = λ r. refl }

control : (x : ℕ) → (x ≡ 34 → ⊥) → (x ≡ 92 → ⊥) → (x ≡ 8 → ⊥) → (x ≡ 12 → ⊥) → (x ≡ 10 → ⊥) → (x ≡ 13 → ⊥) → (x ≡ 9 → ⊥) → x < 32
    → escape_byte x ≡ 92 ∷ 117 ∷ digits 0 0 (x / 16) (x % 16)
unfolding escape_byte
control x a b c d e f g low =
    rw (ne_eqb x 34 a, ne_eqb x 92 b, ne_eqb x 8 c, ne_eqb x 12 d, ne_eqb x 10 e, ne_eqb x 13 f, ne_eqb x 9 g, lt-ltb x 32 low) refl

spells_control : (x : ℕ) → (x ≡ 34 → ⊥) → (x ≡ 92 → ⊥) → (x ≡ 8 → ⊥) → (x ≡ 12 → ⊥) → (x ≡ 10 → ⊥) → (x ≡ 13 → ⊥) → (x ≡ 9 → ⊥) → x < 32
    → Spells (escape_byte x) (x ∷ [])
spells_control x a b c d e f g low =
    subst (λ w. Spells w (x ∷ [])) (sym (control x a b c d e f g low))
    (subst (Spells (92 ∷ 117 ∷ digits 0 0 (x / 16) (x % 16))) (encode_ascii x (omega arith))
    (spells_digits 0 0 (x / 16) (x % 16) x (omega arith) (omega arith) (omega arith) (omega arith) (omega arith) (omega arith)))

abbrev Or : ℕ → ℕ → Type 0
Or x y = (x ≡ y) ⊎ (x ≡ y → ⊥)

by_byte : (x : ℕ) → Or x 34 → Or x 92 → Or x 8 → Or x 9 → Or x 10 → Or x 12 → Or x 13 → (x < 32) ⊎ (32 ≤ x) → Spells (escape_byte x) (x ∷ [])
by_byte x (inl e) b c d f g h l = subst (λ y. Spells (escape_byte y) (y ∷ [])) (sym e) spells_quote
by_byte x (inr a) (inl e) c d f g h l = subst (λ y. Spells (escape_byte y) (y ∷ [])) (sym e) spells_backslash
by_byte x (inr a) (inr b) (inl e) d f g h l = subst (λ y. Spells (escape_byte y) (y ∷ [])) (sym e) spells_backspace
by_byte x (inr a) (inr b) (inr c) (inl e) f g h l = subst (λ y. Spells (escape_byte y) (y ∷ [])) (sym e) spells_tab
by_byte x (inr a) (inr b) (inr c) (inr d) (inl e) g h l = subst (λ y. Spells (escape_byte y) (y ∷ [])) (sym e) spells_line_feed
by_byte x (inr a) (inr b) (inr c) (inr d) (inr f) (inl e) h l = subst (λ y. Spells (escape_byte y) (y ∷ [])) (sym e) spells_form_feed
by_byte x (inr a) (inr b) (inr c) (inr d) (inr f) (inr g) (inl e) l = subst (λ y. Spells (escape_byte y) (y ∷ [])) (sym e) spells_return
by_byte x (inr a) (inr b) (inr c) (inr d) (inr f) (inr g) (inr h) (inl low) = spells_control x a b c g f h d low
by_byte x (inr a) (inr b) (inr c) (inr d) (inr f) (inr g) (inr h) (inr high) =
    subst (λ w. Spells w (x ∷ [])) (sym (escape_byte_plain x a b high)) (spells_byte x a b high)

-- what the writer writes for a byte stands for it
pub spells_ascii : (x : ℕ) → Spells (escape_byte x) (x ∷ [])
spells_ascii x = by_byte x (cases_eq x 34) (cases_eq x 92) (cases_eq x 8) (cases_eq x 9) (cases_eq x 10) (cases_eq x 12) (cases_eq x 13) (cases_lt x 32)
