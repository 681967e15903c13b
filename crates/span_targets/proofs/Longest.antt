-- The first directive whose target a text begins with has the longest such target.
use Rattle.std.proofs.Common.{◌≡◌, ◌∙◌, ℕ, zero, suc, ◌<◌, ◌≤◌, List, [], ◌∷◌, true, false, cond, Option, Some, None, length, take, refl, sym, ap, arith}
use Rattle.std.proofs.Common.{⊎_elim}
use Rattle.std.proofs.lemmas.Bool.{and_parts, cases_eq, cond-false, cond_both}
use Rattle.std.proofs.lemmas.List.{length-take-le}
use Rattle.std.specs.List.{list_all}
use Rattle.std.specs.Option.{option_or}
use Rattle.std.specs.Prelude.{map}
use Rattle.span_core.specs.declared.level.LevelFilter.{LevelFilter}
use Rattle.span_targets.proofs.Edits.{Sorted, stands}
use Rattle.span_targets.proofs.Texts.{apart, begun, differs, no_longer, tested}
use Rattle.span_targets.specs.Directive.{has_target, level_by, listed, named_in, target_of}
use Rattle.span_targets.specs.Names.{longest}
use Rattle.span_targets.specs.private.Order.{begins, first_level, precedes}
use Rattle.span_targets.specs.declared.directive.Directive.{Directive}

nothing_named : (l : Option LevelFilter) (t : List ℕ) (n : ℕ) → longest (named_in [] l) t n ≡ None
nothing_named l t zero = refl
nothing_named l t (suc n) = nothing_named l t n

-- ---- a directive whose target the text doesn't begin with

no_front : (x : Directive) (t : List ℕ) (n : ℕ) → begins t x ≡ false → n ≤ length t → has_target (take n t) x ≡ false
no_front x t n f l =
    differs (target_of x) (take n t) (λ e.
    let size : length (target_of x) ≡ n = ap length e ∙ length-take-le n t l in
    apart (target_of x) (take (length (target_of x)) t) f (e ∙ ap (λ k. take k t) (sym size)))

missed : (x : Directive) (ds : List Directive) (l : Option LevelFilter) (t : List ℕ) (n : ℕ) → begins t x ≡ false → n ≤ length t
    → longest (named_in (x ∷ ds) l) t n ≡ longest (named_in ds l) t n
missed x ds l t zero f le = cond-false (has_target [] x) _ _ (no_front x t zero f le)
missed x ds l t (suc n) f le =
    ap (λ o. option_or o (longest (named_in (x ∷ ds) l) t n)) (cond-false (has_target (take (suc n) t) x) _ _ (no_front x t (suc n) f le))
    ∙ ap (option_or (listed ds (take (suc n) t))) (missed x ds l t n f (omega arith))

-- ---- one that it does begin with

too_long : (k : List ℕ) (ds : List Directive) (u : List ℕ) → list_all (precedes k) (map target_of ds) ≡ true → length k < length u → listed ds u ≡ None
too_long k [] u h l = refl
too_long k (x ∷ ds) u h l =
    let w = and_parts _ _ h in
    let short : length (target_of x) ≤ length k = stands k (target_of x) w.0 in
    let other : has_target u x ≡ false = differs (target_of x) u (λ e. omega (arith, ap length e)) in
    cond-false (has_target u x) _ _ other ∙ too_long k ds u w.1 l

front_is : (x : Directive) (t : List ℕ) (n : ℕ) → begins t x ≡ true → length (target_of x) ≡ n → has_target (take n t) x ≡ true
front_is x t n b e = tested (target_of x) (take n t) (begun t x b ∙ ap (λ k. take k t) e)

hit : (x : Directive) (ds : List Directive) (l : Option LevelFilter) (t : List ℕ) (n : ℕ)
    → begins t x ≡ true → list_all (precedes (target_of x)) (map target_of ds) ≡ true → length (target_of x) ≤ n → n ≤ length t
    → longest (named_in (x ∷ ds) l) t n ≡ Some (level_by x)
hit x ds l t zero b h low high = ap (λ c. cond c (Some (level_by x)) (listed ds [])) (front_is x t zero b (omega arith))
hit x ds l t (suc n) b h low high =
    ⊎_elim
    (λ (e : length (target_of x) ≡ suc n).
    ap (λ c. option_or (cond c (Some (level_by x)) (listed ds (take (suc n) t))) (longest (named_in (x ∷ ds) l) t n)) (front_is x t (suc n) b e))
    (λ (ne : length (target_of x) ≡ suc n → ⊥).
    let size : length (take (suc n) t) ≡ suc n = length-take-le (suc n) t high in
    let short : length (target_of x) ≤ n = omega arith in
    let other : has_target (take (suc n) t) x ≡ false = differs (target_of x) (take (suc n) t) (λ e. omega (arith, ap length e)) in
    let none : listed (x ∷ ds) (take (suc n) t) ≡ None =
    cond-false (has_target (take (suc n) t) x) _ _ other ∙ too_long (target_of x) ds (take (suc n) t) h (omega arith) in
    ap (λ o. option_or o (longest (named_in (x ∷ ds) l) t n)) none ∙ hit x ds l t n b h short (omega arith))
    (cases_eq (length (target_of x)) (suc n))

pub first_is_longest : (ds : List Directive) (l : Option LevelFilter) (t : List ℕ) → Sorted ds → first_level ds t ≡ longest (named_in ds l) t (length t)
first_is_longest [] l t h = sym (nothing_named l t (length t))
first_is_longest (x ∷ ds) l t h =
    let w = and_parts _ _ h in
    cond_both (begins t x) (Some (level_by x)) (first_level ds t) (λ r. r ≡ longest (named_in (x ∷ ds) l) t (length t))
    (λ b. sym (hit x ds l t (length t) b w.0 (no_longer t x b) (omega arith)))
    (λ f. first_is_longest ds l t w.1 ∙ sym (missed x ds l t (length t) f (omega arith)))
