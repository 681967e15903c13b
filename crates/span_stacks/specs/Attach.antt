-- A layer is put on a subscriber, or both are handed back.
use Rattle.std.specs.Prelude.{◌≡◌, ◌+◌, ◌<◌, ◌≤◌}
use Rattle.span_core.specs.declared.error.TraceError.TheVariants.{TooManyFilters}
use Rattle.span_core.specs.declared.filter.TheConstants.FilterId.{LIMIT}
use Rattle.span_stacks.specs.Layered.{inner_of, outer_of}
use Rattle.span_layers.specs.Number.{TakesNumbers, filters_in}
use Rattle.span_stacks.specs.declared.attach.Unattached.{Unattached}
use Rattle.span_stacks.specs.declared.layered.Layered.{Layered}
use Rattle.span_store.specs.Store.{RegistryState}
use Rattle.span_registry.specs.Form.{Form}

-- a layer stands on a subscriber, and its filters took the next numbers, for which there was room
pub record Attaches {L S : Type 0} (registry : S → RegistryState)
    (with_registry : S → RegistryState → S) (inner_usable : S → Type 0) (usable : L → Type 0)
    (has_form : L → Form → Type 0) (attached : L → L → Type 0) (layer : L) (subscriber : S)
    (stack : Layered L S) : Type 0 where
  pub numbers : TakesNumbers registry with_registry has_form layer subscriber (outer_of stack)
      (inner_of stack)
  pub room : (f : Form) → has_form layer f → (registry subscriber).filters + filters_in f ≤ LIMIT
  pub layer_as_it_was : attached layer (outer_of stack)
  pub outer : usable (outer_of stack)
  pub inner : inner_usable (inner_of stack)

-- there is no room for all filters of a layer: layer and subscriber come back unchanged
pub record IsHandedBack {L S : Type 0} (registry : S → RegistryState) (has_form : L → Form → Type 0)
    (layer : L) (subscriber : S) (back : Unattached L S) : Type 0 where
  pub same_layer : back.layer ≡ layer
  pub same_subscriber : back.subscriber ≡ subscriber
  pub error : back.error ≡ TooManyFilters
  pub full : (f : Form) → has_form layer f → LIMIT < (registry subscriber).filters + filters_in f

-- a pair is this layer outside that one
pub record IsPair {L I : Type 0} (pair : Layered L I) (outer : L) (inner : I) : Type 0 where
  pub layer : outer_of pair ≡ outer
  pub below : inner_of pair ≡ inner
