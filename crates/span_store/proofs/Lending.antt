-- How a fact on what a lender ends as is carried over.
use Rattle.std.specs.Prelude.{◌≡◌}
use Rattle.std.proofs.Common.{inl, ◌⊎◌}

-- two lenders that end alike at each last value of what was lent
pub under_name : {N A B C : Type 0} (γ : N) (f g : A → B) → ((w : A) → f w ≡ g w) → ◌≡◌ {A = (N × (A → B)) ⊎ C} (inl (γ, f)) (inl (γ, g))
under_name γ f g e = λ i. inl (γ, λ w. e w i)
