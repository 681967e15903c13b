-- Targets by their length, and those as long by their bytes.
use Rattle.std.proofs.Common.{◌≡◌, ◌∙◌, ℕ, ◌≤◌, List, ◌∷◌, true, false, length, refl, sym, ap, arith}
use Rattle.std.proofs.lemmas.Bool.Decides.{nat_tests}
use Rattle.std.proofs.lemmas.Map.Lookups.{exact_bytes}
use Rattle.std.specs.Cmp.{IsTotalOrder, on_total}
use Rattle.std.specs.Cmp.Lexicographic.{nat_list_cmp_total, slice_cmp}
use Rattle.std.specs.Ordering.{is_gt, nat_cmp, ordering_index, ordering_reverse, ordering_then}
use Rattle.std.specs.Prelude.{bytes_eq}
use Rattle.std.specs.declared.cmp.Ordering.{Ordering}
use Rattle.std.specs.declared.cmp.Ordering.TheVariants.{Less, Equal, Greater}
use Rattle.span_targets.proofs.Texts.{differs}
use Rattle.span_targets.specs.private.Order.{by_length, precedes}

pub is_total : IsTotalOrder by_length
is_total = on_total (λ (t : List ℕ). length t ∷ t) nat_list_cmp_total

greater : (r : Ordering) → is_gt r ≡ true → r ≡ Greater
greater Less e = absurd (cc)
greater Equal e = absurd (cc)
greater Greater e = refl

turned : (r : Ordering) → r ≡ ordering_reverse r → r ≡ Equal
turned Less e = absurd (cc)
turned Equal e = refl
turned Greater e = absurd (cc)

-- a target is as long as itself, and has its bytes
alike : (t u : List ℕ) → t ≡ u → by_length t u ≡ Equal
alike t u e = ap (λ s. by_length s u) e ∙ turned (by_length u u) (is_total.antisymm u u)

-- the targets are the same where neither comes first
pub tied : (t u : List ℕ) → by_length t u ≡ Equal → t ≡ u
tied t u e = let whole = exact_bytes (length t ∷ t) (length u ∷ u) e in cc

unlike : (t u : List ℕ) (r : Ordering) → by_length t u ≡ r → (r ≡ Equal → ⊥) → bytes_eq u t ≡ false
unlike t u r e n = differs u t (λ same. n (sym e ∙ alike t u (sym same)))

-- a directive that comes first, or behind, has another target
pub first : (t u : List ℕ) → by_length t u ≡ Less → bytes_eq u t ≡ false
first t u e = unlike t u Less e (λ n. cc)

pub lower : (t u : List ℕ) → by_length t u ≡ Greater → bytes_eq u t ≡ false
lower t u e = unlike t u Greater e (λ n. cc)

pub before : (t u : List ℕ) → by_length t u ≡ Less → precedes u t ≡ true
before t u e = ap is_gt (is_total.antisymm u t ∙ ap ordering_reverse e)

pub distinct : (t u : List ℕ) → precedes t u ≡ true → bytes_eq t u ≡ false
distinct t u h = first u t (is_total.antisymm u t ∙ ap ordering_reverse (greater _ h))

no_longer : (a b : ℕ) (r : Ordering) → ordering_then (nat_cmp a b) r ≡ Greater → b ≤ a
no_longer a b r e = grind (arith, nat_tests)

pub shorter : (t u : List ℕ) → precedes t u ≡ true → length u ≤ length t
shorter t u h = no_longer (length t) (length u) (slice_cmp nat_cmp t u) (greater _ h)

step : (r s : Ordering) → (r ≡ Equal → s ≡ Greater) → (r ≡ Greater → s ≡ Greater) → ordering_index r ≤ ordering_index s
step Less s f g = omega arith
step Equal s f g = omega (arith, ap ordering_index (f refl))
step Greater s f g = omega (arith, ap ordering_index (g refl))

-- of two targets in order the first stands no further behind a third
pub higher : (t a b : List ℕ) → precedes a b ≡ true → ordering_index (by_length t a) ≤ ordering_index (by_length t b)
higher t a b h =
    let down : by_length b a ≡ Less = is_total.antisymm b a ∙ ap ordering_reverse (greater _ h) in
    step (by_length t a) (by_length t b)
    (λ e. is_total.congr t a b e ∙ greater _ h)
    (λ e. is_total.antisymm t b ∙ ap ordering_reverse (is_total.trans b a t down (is_total.antisymm a t ∙ ap ordering_reverse e)))
