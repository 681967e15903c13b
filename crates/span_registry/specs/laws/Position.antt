-- The law of notices to leaves holds where no leaf stands, and where one goes on by its own step.
use Rattle.std.specs.Prelude.{⊤, [], ◌∷◌, ◌++◌, refl}
use Rattle.std.proofs.Common.{subst, sym}
use Rattle.span_registry.specs.Plan.{Itself}
use Rattle.span_registry.specs.Position.{HearLaws, Heard, Here, Inner, LeafHears, Outer, Position, Told, Under, heard_by}

-- where no leaf stands, the law of notices to leaves holds
pub no_leaf_laws : {T : Type 0} → HearLaws {T = T} (λ x position h y. ⊤)
no_leaf_laws = record { nothing = λ x position. tt; further = λ x y z position h k a b. tt }

module _ {T : Type 0} (goes : T → Told → T → Type 0) where
  -- a leaf that goes on by one list and then by another goes on by both in a row
  one_by_one : (h k : Heard) (x y z : T) → LeafHears goes x Here h y → LeafHears goes y Here k z
      → LeafHears goes x Here (h ++ k) z
  one_by_one [] k x y z a b = subst (λ v. LeafHears goes v Here k z) (sym a) b
  one_by_one (one ∷ h) k x y z a b = (a.0, a.1, one_by_one h k a.0 y z a.2 b)

  -- a leaf that is notified of nothing may be unchanged
  leaf_nothing : (x : T) (position : Position) → LeafHears goes x position [] x
  leaf_nothing x Here = refl
  leaf_nothing x (Under p) = tt
  leaf_nothing x (Outer p) = tt
  leaf_nothing x (Inner p) = tt

  -- at each position, one list after another is both in a row
  leaf_further : (x y z : T) (position : Position) (h k : Heard) → LeafHears goes x position h y
      → LeafHears goes y position k z → LeafHears goes x position (h ++ k) z
  leaf_further x y z Here h k a b = one_by_one h k x y z a b
  leaf_further x y z (Under p) h k a b = tt
  leaf_further x y z (Outer p) h k a b = tt
  leaf_further x y z (Inner p) h k a b = tt

  -- a leaf keeps the law of notices to leaves
  pub leaf_hear_laws : HearLaws (LeafHears goes)
  leaf_hear_laws = record { nothing = leaf_nothing; further = leaf_further }

  -- a leaf that went on by its own step was notified of what the plan of a leaf gives it
  pub leaf_heard : (x : T) (told : Told) (y : T) (position : Position) → goes x told y
      → LeafHears goes x position (heard_by Itself position told) y
  leaf_heard x told y Here g = (y, g, refl)
  leaf_heard x told y (Under p) g = tt
  leaf_heard x told y (Outer p) g = tt
  leaf_heard x told y (Inner p) g = tt
