-- The most that passes at any target is attained at one.
use Rattle.std.proofs.Common.{◌≡◌, ◌∙◌, ℕ, suc, List, [], ◌∷◌, true, false, ◌⊎◌, inl, inr, Some, None, length, take, refl, sym, subst, ap, arith}
use Rattle.std.proofs.Math.Seq.{take-length}
use Rattle.std.proofs.lemmas.Bool.{and_parts, cond-false, cond-true, cond_both, le-leb, leb-true}
use Rattle.std.specs.List.{list_all}
use Rattle.std.specs.Option.{option_or, unwrap_or}
use Rattle.std.specs.Prelude.{bytes_eq, map, nat_le}
use Rattle.span_core.specs.Level.{filter_number, greater, level_number}
use Rattle.span_core.specs.declared.level.LevelFilter.{LevelFilter}
use Rattle.span_core.specs.declared.level.TheConstants.LevelFilter.{OFF}
use Rattle.span_targets.proofs.Edits.{Sorted}
use Rattle.span_targets.proofs.ByLength.{distinct}
use Rattle.span_targets.proofs.Texts.{apart, differs, same, tested}
use Rattle.span_targets.specs.Directive.{has_target, level_by, listed, most_of, target_of}
use Rattle.span_targets.specs.Names.{IsMost, Names, level_for, longest}
use Rattle.span_targets.specs.Targets.{directives_of, most_by, names_of}
use Rattle.span_targets.specs.laws.Below.{level_below}
use Rattle.span_targets.specs.private.Order.{precedes}
use Rattle.span_targets.specs.declared.directive.Directive.{Directive}
use Rattle.span_targets.specs.declared.targets.Targets.{Targets}

-- no directive behind one has its target
pub none_after : (t u : List ℕ) (ds : List Directive) → list_all (precedes t) (map target_of ds) ≡ true → t ≡ u → listed ds u ≡ None
none_after t u [] h e = refl
none_after t u (x ∷ ds) h e =
    let w = and_parts _ _ h in
    let other : bytes_eq t (target_of x) ≡ false = distinct t (target_of x) w.0 in
    let no : has_target u x ≡ false = differs (target_of x) u (λ s. apart t (target_of x) other (e ∙ sym s)) in
    cond-false (has_target u x) _ _ no ∙ none_after t u ds w.1 e

-- where a text has levels, they pass there
named_there : (m : Names) (t : List ℕ) (l : LevelFilter) → m (Some t) ≡ Some l → level_for m t ≡ l
named_there m [] l e = ap (λ o. unwrap_or (option_or o (m None)) OFF) e
named_there m (b ∷ t) l e =
    let whole : m (Some (take (suc (length t)) (b ∷ t))) ≡ Some l = ap (λ u. m (Some u)) (take-length (b ∷ t)) ∙ e in
    ap (λ o. unwrap_or (option_or (option_or o (longest m (b ∷ t) (length t))) (m None)) OFF) whole

abbrev IsBy : List Directive → LevelFilter → LevelFilter → Type 0
IsBy ds a l = (l ≡ a) ⊎ ((t : List ℕ) × (listed ds t ≡ Some l))

other_listed : (x : Directive) (ds : List Directive) (t : List ℕ) (l : LevelFilter)
    → list_all (precedes (target_of x)) (map target_of ds) ≡ true → listed ds t ≡ Some l → listed (x ∷ ds) t ≡ Some l
other_listed x ds t l h e =
    cond_both (has_target t x) (Some (level_by x)) (listed ds t) (λ o. o ≡ Some l)
    (λ is. let none : listed ds t ≡ None = none_after (target_of x) t ds h (same (target_of x) t is) in absurd (cc))
    (λ no. e)

here : (x : Directive) (ds : List Directive) → listed (x ∷ ds) (target_of x) ≡ Some (level_by x)
here x ds = cond-true (has_target (target_of x) x) _ _ (tested (target_of x) (target_of x) refl)

one_of : (a : LevelFilter) (x : Directive) (ds : List Directive) → IsBy (x ∷ ds) a (greater a (level_by x))
one_of a x ds =
    cond_both (nat_le (filter_number a) (filter_number (level_by x))) (level_by x) a (IsBy (x ∷ ds) a)
    (λ e. inr (target_of x, here x ds))
    (λ e. inl refl)

most_listed : (a : LevelFilter) (ds : List Directive) → Sorted ds → IsBy ds a (most_of a ds)
most_listed a [] h = inl refl
most_listed a (x ∷ ds) h =
    let w = and_parts _ _ h in
    elim (most_listed (greater a (level_by x)) ds w.1) [
      | inl e ↦ subst (IsBy (x ∷ ds) a) (sym e) (one_of a x ds)
      | inr s ↦ inr (s.0, other_listed x ds s.0 _ w.0 s.1)
    ]

attained : (f : Targets) → (t : List ℕ) × (level_for (names_of f) t ≡ most_by f)
attained f =
    elim (most_listed (level_for (names_of f) []) (directives_of f) f.ordered) [
      | inl e ↦ ([], sym e)
      | inr s ↦ (s.0, named_there (names_of f) s.0 (most_by f) s.1)
    ]

pub is_most : (f : Targets) → IsMost (names_of f) (most_by f)
is_most f = record {
  above = λ t level passes.
      let low = leb-true (level_number level) (filter_number (level_for (names_of f) t)) passes in
      le-leb _ _ (omega (arith, low, level_below f t));
  attained = attained f;
}
