-- A new stack that is honest; and what the types of stacks and of layers under filters say.
use Rattle.std.specs.Prelude.{◌≡◌, ⊤, ℕ}
use Rattle.span_filters.specs.Filter.{FilterReloadSteps, FilterSteps}
use Rattle.span_stacks.specs.Acts.{FilteredActs, LayeredActs}
use Rattle.span_stacks.specs.Filtered.{FilteredForm, FilteredHears, FilteredSteps, filter_of, id_of, layer_of}
use Rattle.span_stacks.specs.Honest.{IsHonestStack}
use Rattle.span_layers.specs.Layer.{LayerSteps}
use Rattle.span_layers.specs.Parts.{PartsForm}
use Rattle.span_stacks.specs.Layered.{LayeredHears, LayeredSteps, inner_of, outer_of}
use Rattle.span_stacks.specs.Reload.{FilteredReloads, LayeredReloads}
use Rattle.span_stacks.specs.declared.filtered.Filtered.{Filtered as FilteredLayer}
use Rattle.span_stacks.specs.declared.layered.Layered.{Layered}
use Rattle.span_store.specs.Store.{RegistryState, empty_store}
use Rattle.span_registry.specs.Behaviour.{Behaviour, Conduct}
use Rattle.span_registry.specs.Conducts.{ActsAt}
use Rattle.span_registry.specs.Form.{Terminal, Base, Form, OnSubscriber}
use Rattle.span_registry.specs.Hooks.{StackSteps}
use Rattle.span_registry.specs.Reload.{ReloadSteps}
use Rattle.span_registry.specs.Position.{HearSteps}

-- a value is an honest stack of this form, on a registry without spans that handed out this many
-- filters
pub record Stands {S : Type 0} (registry : S → RegistryState) (has_form : S → Form → Type 0)
    (f : Form) (n : ℕ) (x : S) : Type 0 where
  pub has : has_form x f
  pub rules : IsHonestStack f n
  pub filters : (registry x).filters ≡ n
  pub empty : (registry x).store ≡ empty_store

-- Below: what the type of a registry says.

-- the registry that a bare registry stands on: itself
abbrev pub itself : RegistryState → RegistryState
itself s = s

-- a bare registry with another one in its place: that other one
abbrev pub another : RegistryState → RegistryState → RegistryState
another s w = w

-- the form of a bare registry
abbrev pub base_form : RegistryState → Form → Type 0
base_form s f = f ≡ Terminal Base

-- a bare registry is notified: it is unchanged
abbrev pub bare_steps : StackSteps RegistryState
bare_steps x p e lane v y w = w ≡ v

-- what the leaves of a bare registry were notified of: it has none
abbrev pub bare_hears : HearSteps RegistryState
bare_hears x position h y = ⊤

-- Below: what the type of a layer under a filter says, as that of the layer and that of the filter
-- do.

-- the form of a filtered layer
abbrev pub filtered_form : {L F : Type 0} → (F → Behaviour → Type 0) → (L → Form → Type 0)
    → FilteredLayer L F → Form → Type 0
filtered_form answers form x = FilteredForm (id_of x) (answers (filter_of x)) (form (layer_of x))

-- how a filtered layer goes on when it is notified
abbrev pub filtered_steps : {L F : Type 0} → FilterSteps F → LayerSteps L
    → LayerSteps (FilteredLayer L F)
filtered_steps hooked stepped x p e lane under v y w =
    (id_of y ≡ id_of x) × FilteredSteps hooked stepped (id_of x) (filter_of x) (layer_of x) p e lane
    under v (filter_of y) (layer_of y) w

-- what the leaves of a filtered layer were notified of
abbrev pub filtered_hears : {L F : Type 0} → HearSteps L → HearSteps (FilteredLayer L F)
filtered_hears hears x position h y = FilteredHears hears (layer_of x) position h (layer_of y)

-- how filters act on the paths of a filtered layer
abbrev pub filtered_acts : {L F : Type 0} → (F → Conduct → Type 0) → ActsAt L
    → ActsAt (FilteredLayer L F)
filtered_acts own inside x = FilteredActs (id_of x) (own (filter_of x)) inside (layer_of x)

-- how a filtered layer is reloaded
abbrev pub filtered_reloads : {L F : Type 0} → FilterReloadSteps F → ReloadSteps L
    → ReloadSteps (FilteredLayer L F)
filtered_reloads own inside x n l y =
    (id_of y ≡ id_of x) × FilteredReloads own inside (id_of x) (filter_of x) (layer_of x) n l
    (filter_of y) (layer_of y)

-- Below: what the type of a layer on a stack says, as that of the layer and that of the stack do.

-- the registry that a layer on a stack stands on
abbrev pub registry_on : {L I : Type 0} → (I → RegistryState) → Layered L I → RegistryState
registry_on registry x = registry (inner_of x)

-- the form of a layer on a stack
abbrev pub stack_form : {L I : Type 0} → (L → Form → Type 0) → (I → Form → Type 0) → Layered L I
    → Form → Type 0
stack_form layer below x = PartsForm OnSubscriber (layer (outer_of x)) (below (inner_of x))

-- how a layer on a stack goes on when it is notified
abbrev pub stack_steps : {L I : Type 0} → (I → RegistryState → I) → LayerSteps L → StackSteps I
    → StackSteps (Layered L I)
stack_steps with_registry layer below x p e lane v y w =
    LayeredSteps with_registry layer below (outer_of x) (inner_of x) p e lane v (outer_of y)
    (inner_of y) w

-- what the leaves of a layer on a stack were notified of
abbrev pub stack_hears : {L I : Type 0} → HearSteps L → HearSteps I → HearSteps (Layered L I)
stack_hears layer below x position h y =
    LayeredHears layer below (outer_of x) (inner_of x) position h (outer_of y) (inner_of y)

-- how filters act on the paths of a layer on a stack
abbrev pub stack_acts : {L I : Type 0} → ActsAt L → ActsAt I → ActsAt (Layered L I)
stack_acts layer below x = LayeredActs layer below (outer_of x) (inner_of x)

-- how a layer on a stack is reloaded
abbrev pub stack_reloads : {L I : Type 0} → ReloadSteps L → ReloadSteps I
    → ReloadSteps (Layered L I)
stack_reloads layer below x n l y =
    LayeredReloads layer below (outer_of x) (inner_of x) n l (outer_of y) (inner_of y)
