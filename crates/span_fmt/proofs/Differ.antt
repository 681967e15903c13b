-- Texts that are escaped alike.
use Rattle.std.proofs.Common.{◌≡◌, ◌≢◌, ◌∙◌, ◌⊎◌, ℕ, Bool, true, false, List, [], ◌∷◌, ◌++◌, ap, flat_map, inl, inr, not, refl, sym}
use Rattle.std.specs.Prelude.{◌==◌, ◌&&◌, ◌||◌, if◌then◌else◌}
use Rattle.std.specs.Char.Escape.{escape_default}
use Rattle.std.specs.List.{list_all}
use Rattle.std.specs.Str.{chars, encode_utf8_all}
use Rattle.std.proofs.lemmas.Bool.{eq-eqb, eqb-true, true≢false}
use Rattle.std.proofs.lemmas.List.{append_cancel_left}
use Rattle.std.proofs.lemmas.Str.{encodes-chars, encodes_same}
use Rattle.span_fmt.specs.Escape.{EscapedTextsDiffer, escape, is_escaped}
use Rattle.span_fmt.proofs.Runs.{Passes, first_of, passed, run, second_of}

-- ---- no escape begins another, nor a character that stays

abbrev pub starts : List ℕ → List ℕ → Bool
starts [] ys = true
starts (x ∷ xs) [] = false
starts (x ∷ xs) (y ∷ ys) = x == y && starts xs ys

abbrev has_slash : List ℕ → Bool
has_slash [] = false
has_slash (x ∷ xs) = x == 92

abbrev tells : ℕ → ℕ → Bool
tells c d = c == d || not (starts (escape_default c) (escape_default d))

slashes : Passes (λ c. has_slash (escape_default c))
slashes = record { slash = refl; low = refl; high = refl; letter = refl; marks = refl; lines = refl; apart = refl }

abbrev tells_all : ℕ → Bool
tells_all c =
    tells c 92 && (list_all (tells c) (run 0 32) && (list_all (tells c) (run 127 33) && (tells c 0x61c
    && (list_all (tells c) (run 0x200e 2) && (list_all (tells c) (run 0x2028 7) && list_all (tells c) (run 0x2066 4))))))

each : (c : ℕ) → tells_all c ≡ true → Passes (tells c)
each c h =
    let a = second_of (tells c 92) _ h in
    let b = second_of (list_all (tells c) (run 0 32)) _ a in
    let d = second_of (list_all (tells c) (run 127 33)) _ b in
    let e = second_of (tells c 0x61c) _ d in
    let f = second_of (list_all (tells c) (run 0x200e 2)) _ e in
    record {
      slash = first_of (tells c 92) _ h;
      low = first_of (list_all (tells c) (run 0 32)) _ a;
      high = first_of (list_all (tells c) (run 127 33)) _ b;
      letter = first_of (tells c 0x61c) _ d;
      marks = first_of (list_all (tells c) (run 0x200e 2)) _ e;
      lines = first_of (list_all (tells c) (run 0x2028 7)) _ f;
      apart = second_of (list_all (tells c) (run 0x2028 7)) _ f;
    }

all_told : Passes tells_all
all_told = record { slash = refl; low = refl; high = refl; letter = refl; marks = refl; lines = refl; apart = refl }

told : (c d : ℕ) → is_escaped c ≡ true → is_escaped d ≡ true → tells c d ≡ true
told c d p q = passed (tells c) (each c (passed tells_all all_told c p)) d q

pub cons_head : {x y : ℕ} {xs ys : List ℕ} → (x ∷ xs) ≡ (y ∷ ys) → x ≡ y
cons_head e = cc

pub cons_tail : {x y : ℕ} {xs ys : List ℕ} → (x ∷ xs) ≡ (y ∷ ys) → xs ≡ ys
cons_tail e = cc

pub cons_nil : {x : ℕ} {xs : List ℕ} → (x ∷ xs) ≢ []
cons_nil e = cc

-- two that stand at the beginning of one text: one begins the other
pub one_starts : (xs ys r s : List ℕ) → xs ++ r ≡ ys ++ s → (starts xs ys ≡ true) ⊎ (starts ys xs ≡ true)
one_starts [] ys r s e = inl refl
one_starts (x ∷ xs) [] r s e = inr refl
one_starts (x ∷ xs) (y ∷ ys) r s e =
    let same : x ≡ y = cons_head e in
    elim (one_starts xs ys r s (cons_tail e)) [
      | inl h ↦ inl (ap (λ b. b && starts xs ys) (eq-eqb x y same) ∙ h)
      | inr h ↦ inr (ap (λ b. b && starts ys xs) (eq-eqb y x (sym same)) ∙ h)
    ]

refuted : (a b : Bool) → a || not b ≡ true → b ≡ true → a ≡ true
refuted true b h e = refl
refuted false b h e = absurd (true≢false (sym h ∙ ap not e))

-- so two escapes there are of one character
same_escapes : (c d : ℕ) (r s : List ℕ) → is_escaped c ≡ true → is_escaped d ≡ true → escape_default c ++ r ≡ escape_default d ++ s → c ≡ d
same_escapes c d r s p q e = elim (one_starts (escape_default c) (escape_default d) r s e) [
  | inl h ↦ eqb-true c d (refuted (c == d) (starts (escape_default c) (escape_default d)) (told c d p q) h)
  | inr h ↦ sym (eqb-true d c (refuted (d == c) (starts (escape_default d) (escape_default c)) (told d c q p) h))
]

with_slash : (xs : List ℕ) → has_slash xs ≡ true → (ys : List ℕ) × (xs ≡ 92 ∷ ys)
with_slash [] e = cc
with_slash (x ∷ xs) e = (xs, ap (λ n. n ∷ xs) (eqb-true x 92 e))

-- what an escape begins with is escaped itself
no_other : (c d : ℕ) (r s : List ℕ) → is_escaped c ≡ true → is_escaped d ≡ false → (escape_default c ++ r) ≢ (d ∷ s)
no_other c d r s p q e =
    let slash = with_slash (escape_default c) (passed (λ c. has_slash (escape_default c)) slashes c p) in
    let same : 92 ≡ d = cons_head (sym (ap (λ xs. xs ++ r) slash.1) ∙ e) in
    true≢false (ap is_escaped same ∙ q)

abbrev pub by : Bool → ℕ → List ℕ
by b c = if b then escape_default c else c ∷ []

pub one_alike : (c d : ℕ) (r s : List ℕ) (p q : Bool) → is_escaped c ≡ p → is_escaped d ≡ q → by p c ++ r ≡ by q d ++ s → c ≡ d
one_alike c d r s true true p q e = same_escapes c d r s p q e
one_alike c d r s true false p q e = absurd (no_other c d r s p q e)
one_alike c d r s false true p q e = absurd (no_other d c s r q p (sym e))
one_alike c d r s false false p q e = cons_head e

pub filled : (c : ℕ) (r : List ℕ) (p : Bool) → is_escaped c ≡ p → (by p c ++ r) ≢ []
filled c r true p e = let slash = with_slash (escape_default c) (passed (λ c. has_slash (escape_default c)) slashes c p) in
    cons_nil (sym (ap (λ xs. xs ++ r) slash.1) ∙ e)
filled c r false p e = cons_nil e

-- lists of characters that are escaped alike are the same
alike : (cs ds : List ℕ) → flat_map escape cs ≡ flat_map escape ds → cs ≡ ds
alike [] [] e = refl
alike [] (d ∷ ds) e = absurd (filled d (flat_map escape ds) (is_escaped d) refl (sym e))
alike (c ∷ cs) [] e = absurd (filled c (flat_map escape cs) (is_escaped c) refl e)
alike (c ∷ cs) (d ∷ ds) e =
    let same = one_alike c d (flat_map escape cs) (flat_map escape ds) (is_escaped c) (is_escaped d) refl refl e in
    let rest : flat_map escape cs ≡ flat_map escape ds =
    append_cancel_left (escape c) (flat_map escape cs) (flat_map escape ds) (e ∙ ap (λ x. escape x ++ flat_map escape ds) (sym same)) in
    ap (λ x. x ∷ cs) same ∙ ap (λ xs. d ∷ xs) (alike cs ds rest)

pub differ : EscapedTextsDiffer
differ text other u v e =
    let same = alike (chars text) (chars other) (encodes_same (flat_map escape (chars text)) (flat_map escape (chars other)) e) in
    sym (encodes-chars text u) ∙ ap encode_utf8_all same ∙ encodes-chars other v
