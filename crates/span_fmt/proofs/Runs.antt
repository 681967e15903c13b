-- What holds of all that is escaped, by a test of each.
use Rattle.std.proofs.Common.{◌≡◌, ◌≤◌, ◌<◌, ◌+◌, ◌⊎◌, ◌∙◌, ℕ, zero, suc, Bool, true, false, List, [], ◌∷◌, ap, arith, inl, inr, refl}
use Rattle.std.specs.Prelude.{◌&&◌, ◌||◌}
use Rattle.std.specs.List.{list_all}
use Rattle.std.proofs.lemmas.Bool.{eqb-true}
use Rattle.std.proofs.lemmas.Bool.Decides.{eqb_tells, nat_tests}
use Rattle.span_fmt.specs.Escape.{is_among, is_escaped}

-- from this number on, so many
abbrev pub run : ℕ → ℕ → List ℕ
run first zero = []
run first (suc n) = first ∷ run (first + 1) n

pub first_of : (a b : Bool) → a && b ≡ true → a ≡ true
first_of true b e = refl
first_of false b e = e

pub second_of : (a b : Bool) → a && b ≡ true → b ≡ true
second_of true b e = e
second_of false b e = cc

either : (a b : Bool) → a || b ≡ true → (a ≡ true) ⊎ (b ≡ true)
either true b e = inl refl
either false b e = inr e

-- in a run
in_run : (p : ℕ → Bool) (first n c : ℕ) → list_all p (run first n) ≡ true → first ≤ c → c < first + n → p c ≡ true
in_run p first zero c h low high = absurd (omega arith)
in_run p first (suc n) c h low high =
    elim (eqb_tells c first) [
      | inl e ↦ ap p e.1 ∙ first_of (p first) (list_all p (run (first + 1) n)) h
      | inr e ↦ in_run p (first + 1) n c (second_of (p first) (list_all p (run (first + 1) n)) h) (let other = e.1 in omega arith) (omega arith)
    ]

-- each of these runs passes a test
pub record Passes (p : ℕ → Bool) : Type 0 where
  pub slash : p 92 ≡ true
  pub low : list_all p (run 0 32) ≡ true
  pub high : list_all p (run 127 33) ≡ true
  pub letter : p 0x61c ≡ true
  pub marks : list_all p (run 0x200e 2) ≡ true
  pub lines : list_all p (run 0x2028 7) ≡ true
  pub apart : list_all p (run 0x2066 4) ≡ true

among : (p : ℕ → Bool) (first n last c : ℕ) → list_all p (run first n) ≡ true → last + 1 ≡ first + n → is_among first last c ≡ true → p c ≡ true
among p first n last c h e is = in_run p first n c h (grind (arith, nat_tests)) (grind (arith, nat_tests))

-- then all that is escaped does
pub passed : (p : ℕ → Bool) → Passes p → (c : ℕ) → is_escaped c ≡ true → p c ≡ true
passed p h c is = elim (either _ _ is) [
  | inr e ↦ among p 0x2066 4 0x2069 c h.apart refl e
  | inl rest ↦ elim (either _ _ rest) [
    | inr e ↦ among p 0x2028 7 0x202e c h.lines refl e
    | inl rest ↦ elim (either _ _ rest) [
      | inr e ↦ among p 0x200e 2 0x200f c h.marks refl e
      | inl rest ↦ elim (either _ _ rest) [
        | inr e ↦ ap p (eqb-true c 0x61c e) ∙ h.letter
        | inl rest ↦ elim (either _ _ rest) [
          | inr e ↦ among p 127 33 159 c h.high refl e
          | inl rest ↦ elim (either _ _ rest) [
            | inr e ↦ among p 0 32 31 c h.low refl e
            | inl e ↦ ap p (eqb-true c 92 e) ∙ h.slash
          ]
        ]
      ]
    ]
  ]
]
