-- What is written of notices, whatever it is written to.
use Rattle.std.specs.Prelude.{◌≡◌, ℕ, List, [], ◌∷◌, ◌++◌}
use Rattle.span_registry.specs.Behaviour.{Notice}
use Rattle.span_registry.specs.Context.{filters_lent, lane_lent, subscriber_lent}
use Rattle.span_registry.specs.Position.{Heard}
use Rattle.span_store.specs.Store.{RegistryState}
use Rattle.span_registry.specs.View.{View, plain_view}
use Rattle.span_registry.specs.declared.context.ContextMut.{ContextMut}

-- what a form gives: by which form, of which notice, in what is shown, which text, and which form
-- it is then
abbrev pub FormSteps : Type 0 → Type 1
FormSteps F = F → Notice → View → List ℕ → F → Type 0

-- how a form goes on where it finds no memory
abbrev pub FormMisses : Type 0 → Type 1
FormMisses F = F → Notice → View → F → Type 0

-- what a hook is shown, extensions aside
abbrev pub plainly_lent : {S : Type 0} → (S → RegistryState) → ContextMut S → View
plainly_lent registry c =
    plain_view (registry (subscriber_lent c)).store (lane_lent c).0 (filters_lent c)

module _ {F : Type 0} (gives : FormSteps F) where
  -- a form that is notified of these one by one gives this text
  abbrev pub Gives : F → Heard → List ℕ → F → Type 0
  Gives x [] text y = (text ≡ []) × (y ≡ x)
  Gives x (told ∷ heard) text y =
      (line : List ℕ) × (z : F) × (rest : List ℕ) × gives x told.notice told.view line z
      × Gives z heard rest y × (text ≡ line ++ rest)
