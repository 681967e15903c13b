-- The text of fields that is kept in the extensions of their spans.
use Rattle.std.specs.Prelude.{◌≡◌, ◌≢◌, ◌⊎◌, ◌-◌, ◌^◌, ℕ, Bool, true, List, [], ◌++◌, MatchOption, String, string_bytes}
use Rattle.std.specs.FinMap.{get, insert}
use Rattle.std.specs.Option.{option_map_or}
use Rattle.std.specs.declared.alloc.Global.{Global}
use Rattle.span_core.specs.Span.{number_of, recorded_values, values_of}
use Rattle.span_error.specs.declared.layer.ErrorLayer.{ErrorLayer}
use Rattle.span_extensions.specs.Extensions.{Place}
use Rattle.span_extensions.specs.declared.extensions.ExtensionMap.{ExtensionMap}
use Rattle.span_fmt.specs.Text.{fields_text}
use Rattle.span_layers.specs.Observe.{ObserverSteps}
use Rattle.span_registry.specs.Behaviour.{Notice, OnNewSpan, OnRecord}
use Rattle.span_registry.specs.View.{View, extensions_shown, view_of}
use Rattle.span_store.specs.Store.{RegistryState, with_extensions}

-- the number of the tag under which the text of a span's fields is kept: the last one
abbrev pub fields_number : ℕ
fields_number = 2 ^ 32 - 1

-- whether a layer found no memory for some fields
abbrev pub has_failed : ErrorLayer → Bool
has_failed x = x.failed

module _ (texts : Place (String Global)) where
  -- the text of the fields of a span with these extensions, as far as it is kept: each field behind
  -- a space
  abbrev pub kept_text : ExtensionMap → List ℕ
  kept_text m = option_map_or string_bytes (get (texts.values m) fields_number) []

  -- the extensions with this text of the span's fields
  abbrev pub with_kept : ExtensionMap → String Global → ExtensionMap
  with_kept m t = texts.with_values m (insert (texts.values m) fields_number t)

  -- the text of fields is kept behind what was kept, and no other value of the span changes
  pub record Keeps (given : List ℕ) (m n : ExtensionMap) : Type 0 where
    pub text : kept_text n ≡ kept_text m ++ given
    pub rest : (n ≡ m) ⊎ ((t : String Global) × (n ≡ with_kept m t))

  -- the text of fields is kept; or memory is refused for it, and then the layer has failed, and
  -- what is kept doesn't change
  abbrev pub KeepsOrFails : List ℕ → ErrorLayer → ExtensionMap → ErrorLayer → ExtensionMap → Type 0
  KeepsOrFails given x m y n =
      (Keeps given m n × (has_failed y ≡ has_failed x))
      ⊎ ((given ≢ []) × (n ≡ m) × (has_failed y ≡ true))

  -- the layer takes the text of fields that this span is given: it is kept in the span's
  -- extensions, and nothing else of the registry changes. Of a span that isn't shown nothing is
  -- kept
  abbrev pub TakesFields : ℕ → List ℕ → View → ErrorLayer → RegistryState → ErrorLayer
      → RegistryState → Type 0
  TakesFields id given v x s y t =
      MatchOption (extensions_shown id v) ((y ≡ x) × (t ≡ s))
      (λ m. (n : ExtensionMap) × KeepsOrFails given x m y n × (t ≡ with_extensions s id n))

  -- the layer is notified: it takes the fields of a new span, and those of a record; by all else
  -- nothing changes
  abbrev pub TakesNotice : Notice → View → ErrorLayer → RegistryState → ErrorLayer → RegistryState
      → Type 0
  TakesNotice (OnNewSpan attrs id) v x s y t =
      TakesFields (number_of id) (fields_text (values_of attrs)) v x s y t
  TakesNotice (OnRecord id values) v x s y t =
      TakesFields (number_of id) (fields_text (recorded_values values)) v x s y t
  TakesNotice other v x s y t = (y ≡ x) × (t ≡ s)

  -- a layer goes on by what its context shows
  abbrev pub error_layer_steps : ObserverSteps ErrorLayer
  error_layer_steps x e lane under v y w = TakesNotice e (view_of v.store lane under) x v y w
