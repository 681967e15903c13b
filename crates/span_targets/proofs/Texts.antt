-- Texts that are the same, and texts that aren't.
use Rattle.std.proofs.Common.{◌≡◌, ℕ, ◌≤◌, List, true, false, length, take, sym, ap, arith}
use Rattle.std.proofs.lemmas.Bool.{both_ways, false_from_ne_true}
use Rattle.std.proofs.lemmas.List.{length-take}
use Rattle.std.proofs.lemmas.Slice.Eq.{bytes_eq-Decides}
use Rattle.std.specs.Prelude.{bytes_eq}
use Rattle.span_targets.specs.Directive.{target_of}
use Rattle.span_targets.specs.private.Order.{begins}
use Rattle.span_targets.specs.declared.directive.Directive.{Directive}

pub same : (t u : List ℕ) → bytes_eq t u ≡ true → t ≡ u
same t u = (bytes_eq-Decides t u).0

pub tested : (t u : List ℕ) → t ≡ u → bytes_eq t u ≡ true
tested t u = (bytes_eq-Decides t u).1

pub apart : (t u : List ℕ) → bytes_eq t u ≡ false → t ≡ u → ⊥
apart t u f e = both_ways _ f (tested t u e)

pub differs : (t u : List ℕ) → (t ≡ u → ⊥) → bytes_eq t u ≡ false
differs t u n = false_from_ne_true _ (λ e. n (same t u e))

pub apart_back : (t u : List ℕ) → bytes_eq t u ≡ false → bytes_eq u t ≡ false
apart_back t u f = differs u t (λ e. apart t u f (sym e))

-- the front of a text
pub begun : (t : List ℕ) (d : Directive) → begins t d ≡ true → target_of d ≡ take (length (target_of d)) t
begun t d = same (target_of d) (take (length (target_of d)) t)

pub no_longer : (t : List ℕ) (d : Directive) → begins t d ≡ true → length (target_of d) ≤ length t
no_longer t d e = omega (arith, ap length (begun t d e), length-take (length (target_of d)) t)
