-- No more passes at a target than by a directive or at the empty target.
use Rattle.std.proofs.Common.{◌≡◌, ℕ, zero, suc, ◌≤◌, List, [], ◌∷◌, Option, Some, None, length, take, refl, sym, subst, arith}
use Rattle.std.proofs.lemmas.Bool.{cond_both, leb-false, leb-true}
use Rattle.std.specs.Option.{IfSome, option_or, unwrap_or}
use Rattle.std.specs.Prelude.{nat_le}
use Rattle.span_core.specs.Level.{filter_number, greater}
use Rattle.span_core.specs.declared.level.LevelFilter.{LevelFilter}
use Rattle.span_core.specs.declared.level.TheConstants.LevelFilter.{OFF}
use Rattle.span_targets.specs.Targets.{directives_of, most_by, names_of}
use Rattle.span_targets.specs.Names.{Names, level_for, longest}
use Rattle.span_targets.specs.Directive.{has_target, level_by, listed, most_of}
use Rattle.span_targets.specs.declared.directive.Directive.{Directive}
use Rattle.span_targets.specs.declared.targets.Targets.{Targets}

-- the levels go up to this number at most
abbrev AtMost : ℕ → LevelFilter → Type 0
AtMost k l = filter_number l ≤ k

-- the greater is no less than the first
pub greater_first : (f g : LevelFilter) → filter_number f ≤ filter_number (greater f g)
greater_first f g =
    cond_both (nat_le (filter_number f) (filter_number g)) g f
    (λ h. filter_number f ≤ filter_number h) (λ e. leb-true _ _ e) (λ e. omega arith)

-- the greater is no less than the second
pub greater_second : (f g : LevelFilter) → filter_number g ≤ filter_number (greater f g)
greater_second f g =
    cond_both (nat_le (filter_number f) (filter_number g)) g f
    (λ h. filter_number g ≤ filter_number h) (λ e. omega arith)
    (λ e. omega (arith, leb-false _ _ e))

-- the most that passes is no less than what was at hand
most_above : (a : LevelFilter) (ds : List Directive)
    → filter_number a ≤ filter_number (most_of a ds)
most_above a [] = omega arith
most_above a (x ∷ ds) =
    omega (arith, greater_first a (level_by x), most_above (greater a (level_by x)) ds)

-- the levels listed for a target are no more than the most that passes by a directive
listed_below : (a : LevelFilter) (ds : List Directive) (u : List ℕ)
    → IfSome (listed ds u) (AtMost (filter_number (most_of a ds)))
listed_below a [] u = tt
listed_below a (x ∷ ds) u =
    let b = greater a (level_by x) in
    let most = filter_number (most_of b ds) in
    cond_both (has_target u x) (Some (level_by x)) (listed ds u) (λ o. IfSome o (AtMost most))
    (λ e. omega (arith, greater_second a (level_by x), most_above b ds))
    (λ e. listed_below b ds u)

-- the first levels, else the second, else none are at most a number that neither are above
either : (k : ℕ) (o p : Option LevelFilter) → IfSome o (AtMost k)
    → filter_number (unwrap_or p OFF) ≤ k → filter_number (unwrap_or (option_or o p) OFF) ≤ k
either k None p h g = g
either k (Some l) p h g = h

-- the first of three that is there is the same one, however the three are grouped
grouped : (o p q : Option LevelFilter) → option_or (option_or o p) q ≡ option_or o (option_or p q)
grouped None p q = refl
grouped (Some l) p q = refl

-- where no text's levels are above a number, nor those at the empty target, none at a target are
longest_below : (k : ℕ) (m : Names) (t : List ℕ) → ((u : List ℕ) → IfSome (m (Some u)) (AtMost k))
    → filter_number (level_for m []) ≤ k → (n : ℕ)
    → filter_number (unwrap_or (option_or (longest m t n) (m None)) OFF) ≤ k
longest_below k m t h e zero = e
longest_below k m t h e (suc n) =
    let rest : filter_number (unwrap_or (option_or (longest m t n) (m None)) OFF) ≤ k =
    longest_below k m t h e n in
    let here = m (Some (take (suc n) t)) in
    let whole = either k here (option_or (longest m t n) (m None)) (h (take (suc n) t)) rest in
    subst (λ o. filter_number (unwrap_or o OFF) ≤ k) (sym (grouped here (longest m t n) (m None)))
    whole

-- nowhere do more levels pass than the most that passes by a directive, or at the empty target
pub level_below : (f : Targets) (t : List ℕ)
    → filter_number (level_for (names_of f) t) ≤ filter_number (most_by f)
level_below f t =
    longest_below (filter_number (most_by f)) (names_of f) t
    (listed_below (level_for (names_of f) []) (directives_of f))
    (most_above (level_for (names_of f) []) (directives_of f)) (length t)
