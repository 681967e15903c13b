-- The names that lines give to the spans that their requests made.
use Rattle.std.proofs.Common.{◌≡◌, ℕ, suc, zero, ◌+◌, ◌<◌, ◌≤◌, List, [], ◌∷◌, length, Option, Some, None, MatchOption, refl, sym, ap, ◌∙◌, subst, rules, arith}
use Rattle.std.specs.Prelude.{Bool, true, false, if◌then◌else◌, slice_get, IsSomeAnd}
use Rattle.std.specs.Option.{option_map}
use Rattle.std.specs.Ordering.{nat_cmp, is_eq}
use Rattle.std.specs.Borrow.{Bor}
use Rattle.std.specs.BTreeMap as tree
use Rattle.std.specs.BTreeMap.{BTreeMap}
use native.Mathlib.Decide.{dec_lt}
use Rattle.std.proofs.lemmas.Bool.{true≢false}
use Rattle.std.proofs.lemmas.Bool.Decides.{nat_tests}
use Rattle.span_core.specs.Span.{number_of}
use Rattle.span_script.specs.Printed.{AreLabels, IsNamed, IsNamedAt}
use Rattle.span_script.specs.declared.line.Line.{Line}
use Rattle.span_dispatch.specs.declared.request.Answer.{Answer}
use Rattle.span_dispatch.specs.declared.request.Answer.TheVariants.{Made}

pub MatchOption-map : {X : Type 0} (o : Option X) (P P' : Type 0) (Q : X → Type 0) → MatchOption o P Q → (P → P') → MatchOption o P' Q
MatchOption-map None P P' Q h f = f h
MatchOption-map (Some x) P P' Q h f = h

-- a line that is named stands in the list
pub IsNamedAt-within : (lines : List Line) (answers : List Answer) (k n : ℕ) (label : List ℕ) → IsNamedAt lines answers k n label → k < length lines
IsNamedAt-within lines answers k n label h = within lines k (λ l. IsNamed l (slice_get answers k) n label) h
  where
    within : (xs : List Line) (i : ℕ) (P : Line → Type 0) → IsSomeAnd (slice_get xs i) P → i < length xs
    within [] i P g = absurd g
    within (x ∷ xs) zero P g = omega arith
    within (x ∷ xs) (suc i) P g = let l : i < length xs = within xs i P g in omega arith

-- a span has one number
IsNamed-one : (l : Line) (answer : Option Answer) (n m : ℕ) (x y : List ℕ) → IsNamed l answer n x → IsNamed l answer m y → n ≡ m
IsNamed-one l answer n m x y h g = let e : Some (Made h.1.0) ≡ Some (Made g.1.0) = sym h.1.1 ∙ g.1.1 in
    let same : h.1.0 ≡ g.1.0 = cc in sym h.1.2 ∙ ap (λ id. number_of id) same ∙ g.1.2

nat_same : (n m : ℕ) → is_eq (nat_cmp n m) ≡ true → n ≡ m
nat_same n m e = grind (arith, nat_tests)

-- a fact on the line at a place, where that line is known
at-known : (xs : List Line) (k : ℕ) (l : Line) (P : Line → Type 0) → slice_get xs k ≡ Some l → IsSomeAnd (slice_get xs k) P → P l
at-known xs k l P e h = subst (λ (o : Option Line). IsSomeAnd o P) e h

-- the names of the lines before place i
abbrev pub AreNames : List Line → List Answer → ℕ → BTreeMap ℕ (Bor (List ℕ)) → Type 0
AreNames lines answers i names = (number : ℕ) → MatchOption (tree.get nat_cmp names number)
    ((place : ℕ) (label : List ℕ) → place < i → ¬ (IsNamedAt lines answers place number label))
    (λ label. (place : ℕ) × IsNamedAt lines answers place number label.now)

shown : (o : Option (Bor (List ℕ))) (P : Type 0) (Q : List ℕ → Type 0)
    → MatchOption o P (λ label. Q label.now) → MatchOption (option_map (λ label. label.now) o) P Q
shown None P Q h = h
shown (Some x) P Q h = h

-- the names of all the lines
pub AreNames-all : (lines : List Line) (answers : List Answer) (i : ℕ) (names : BTreeMap ℕ (Bor (List ℕ))) → length lines ≤ i → AreNames lines answers i names
    → AreLabels lines answers (λ number. option_map (λ label. label.now) (tree.get nat_cmp names number))
AreNames-all lines answers i names end all number = shown (tree.get nat_cmp names number) _ (λ label. (place : ℕ) × IsNamedAt lines answers place number label)
    (MatchOption-map (tree.get nat_cmp names number) _ _ _ (all number)
    (λ none place label h. let l : place < length lines = IsNamedAt-within lines answers place number label h in none place label (omega arith) h))

-- one place more at which no span is named
pub AreNames-past : (lines : List Line) (answers : List Answer) (i : ℕ) (names : BTreeMap ℕ (Bor (List ℕ))) (l : Line) → slice_get lines i ≡ Some l
    → AreNames lines answers i names → ((number : ℕ) (label : List ℕ) → ¬ (IsNamed l (slice_get answers i) number label)) → AreNames lines answers (i + 1) names
AreNames-past lines answers i names l here before nobody = λ number. MatchOption-map (tree.get nat_cmp names number) _ _ _ (before number)
    (λ none place label low h. elim (dec_lt place i) [
      | yes less ↦ none place label less h
      | no not ↦ (let e : place ≡ i = omega arith in
          nobody number
          label (at-known lines i l (λ l. IsNamed l (slice_get answers i) number label) here (subst (λ k. IsNamedAt lines answers k number label) e h)))
    ])

-- one place more, at which a span is named
pub AreNames-named : (lines : List Line) (answers : List Answer) (i : ℕ) (names new : BTreeMap ℕ (Bor (List ℕ))) (l : Line) (n : ℕ) (label : Bor (List ℕ))
    → slice_get lines i ≡ Some l → AreNames lines answers i names → IsNamed l (slice_get answers i) n label.now
    → ((number : ℕ) → tree.get nat_cmp new number ≡ if is_eq (nat_cmp n number) then Some label else tree.get nat_cmp names number)
    → AreNames lines answers (i + 1) new
AreNames-named lines answers i names new l n label here before named updates = λ number.
    subst (λ (o : Option (Bor (List ℕ))). MatchOption o ((place : ℕ) (label : List ℕ) → place < i + 1 → ¬ (IsNamedAt lines answers place number label))
    (λ label. (place : ℕ) × IsNamedAt lines answers place number label.now)) (sym (updates number))
    (step number (is_eq (nat_cmp n number)) refl)
  where
    there : IsNamedAt lines answers i n label.now
    there = subst (λ (o : Option Line). IsSomeAnd o (λ l. IsNamed l (slice_get answers i) n label.now)) (sym here) named

    step : (number : ℕ) (b : Bool) → is_eq (nat_cmp n number) ≡ b → MatchOption (if b then Some label else tree.get nat_cmp names number)
        ((place : ℕ) (label : List ℕ) → place < i + 1 → ¬ (IsNamedAt lines answers place number label))
        (λ label. (place : ℕ) × IsNamedAt lines answers place number label.now)
    step number true e = let same : n ≡ number = nat_same n number e in (i, subst (λ k. IsNamedAt lines answers i k label.now) same there)
    step number false e = MatchOption-map (tree.get nat_cmp names number) _ _ _ (before number)
        (λ none place other low h. elim (dec_lt place i) [
          | yes less ↦ none place other less h
          | no not ↦ (let at : place ≡ i = omega arith in
              let now : IsNamed l (slice_get answers i) number other =
              at-known lines i l (λ l. IsNamed l (slice_get answers i) number other) here (subst (λ k. IsNamedAt lines answers k number other) at h) in
              let same : n ≡ number = IsNamed-one l (slice_get answers i) n number label.now other named now in
              let t : is_eq (nat_cmp n number) ≡ true = rw same (search rules) in absurd (true≢false (sym t ∙ e)))
        ])
