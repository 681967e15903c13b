-- A list of layers, by index.
use Rattle.std.specs.Prelude.{◌≡◌, ⊤, List, [], ◌∷◌}
use Rattle.span_layers.specs.Layer.{LayerSteps}
use Rattle.span_layers.specs.Parts.{PartsForm}
use Rattle.span_store.specs.Store.{RegistryState}
use Rattle.span_registry.specs.Form.{Terminal, End, Form, InList}
use Rattle.span_registry.specs.Plan.{Both, Nobody}
use Rattle.span_registry.specs.Position.{HearSteps, Inner, Outer}
use Rattle.span_registry.specs.Subscriber.{SameButExtensions}

-- the form of a list: the first member's and the rest's, and at last the end of a list
abbrev pub ListForm : {L : Type 0} → (L → Form → Type 0) → List L → Form → Type 0
ListForm has [] f = f ≡ Terminal End
ListForm has (x ∷ xs) f = PartsForm InList (has x) (ListForm has xs) f

-- one goes on, writing extensions alone, and then the others go on in what it left
pub record GoInTurn (one others : RegistryState → RegistryState → Type 0)
    (v w : RegistryState) : Type 0 where
  pub between : RegistryState
  pub extensions : SameButExtensions v between
  pub first : one v between
  pub rest : others between w

-- the members of a list are notified by index, each by its plan
abbrev pub ListSteps : {L : Type 0} → LayerSteps L → LayerSteps (List L)
ListSteps stepped [] Nobody e lane under v [] w = w ≡ v
ListSteps stepped (x ∷ xs) (Both p q) e lane under v (y ∷ ys) w =
    GoInTurn (λ a b. stepped x p e lane under a y b)
    (λ a b. ListSteps stepped xs q e lane under a ys b) v w
ListSteps stepped xs other e lane under v ys w = ⊥

-- what the leaves of a list were notified of: each member of its own. The first stands in the outer
-- part, the second in the inner one's outer part, and so on; no leaf stands at another position
abbrev pub ListHears : {L : Type 0} → HearSteps L → HearSteps (List L)
ListHears hears [] position h [] = ⊤
ListHears hears [] position h (y ∷ ys) = ⊥
ListHears hears (x ∷ xs) position h [] = ⊥
ListHears hears (x ∷ xs) (Outer p) h (y ∷ ys) = hears x p h y
ListHears hears (x ∷ xs) (Inner p) h (y ∷ ys) = ListHears hears xs p h ys
ListHears hears (x ∷ xs) other h (y ∷ ys) = ⊤
