-- A boxed layer goes on as the layer in the box does, and nothing else of the box changes.
use Rattle.std.specs.Prelude.{◌≡◌, Box}
use Rattle.std.specs.Box.{with_value}
use Rattle.span_layers.specs.Layer.{LayerSteps}
use Rattle.span_registry.specs.Reload.{ReloadSteps}
use Rattle.span_registry.specs.Position.{HearSteps}

-- the layer in a box goes on by this relation, and nothing else of the box changes
abbrev pub BoxGoes : {L Z : Type 0} → (L → L → Type 0) → Box L Z → Box L Z → Type 0
BoxGoes goes x y = (y ≡ with_value x y.value) × goes x.value y.value

-- a boxed layer goes on as the layer in the box does
abbrev pub BoxSteps : {L Z : Type 0} → LayerSteps L → LayerSteps (Box L Z)
BoxSteps stepped x p e lane under v y w = BoxGoes (λ a b. stepped a p e lane under v b w) x y

-- the leaves of a boxed layer are notified of what those of the layer in the box are
abbrev pub BoxHears : {L Z : Type 0} → HearSteps L → HearSteps (Box L Z)
BoxHears hears x position h y = BoxGoes (λ a b. hears a position h b) x y

-- a boxed layer is reloaded as the layer in the box
abbrev pub BoxReloads : {L Z : Type 0} → ReloadSteps L → ReloadSteps (Box L Z)
BoxReloads reloaded x n l y = BoxGoes (λ a b. reloaded a n l b) x y
