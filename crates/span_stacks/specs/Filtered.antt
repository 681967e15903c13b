-- A layer under a filter.
use Rattle.std.specs.Prelude.{◌≡◌, ⊤, ℕ, ◌<◌, true, false, Option, Some, None}
use Rattle.span_core.specs.Filters.{FilterSet, has_filter, is_attached, union}
use Rattle.span_core.specs.declared.filter.FilterId.{FilterId}
use Rattle.span_core.specs.declared.filter.TheConstants.FilterId.{LIMIT}
use Rattle.span_filters.specs.Filter.{FilterSteps}
use Rattle.span_layers.specs.Layer.{LayerSteps}
use Rattle.span_stacks.specs.declared.filtered.Filtered.{Filtered as FilteredLayer}
use Rattle.span_store.specs.Store.{RegistryState}
use Rattle.span_registry.specs.Behaviour.{Behaviour, Notice, OnClose, OnEnter, OnEvent, OnExit, OnFollows, OnIdChange, OnNewSpan, OnRecord}
use Rattle.span_registry.specs.Form.{Filtered, Form}
use Rattle.span_registry.specs.Position.{HearSteps, Under}
use Rattle.span_registry.specs.Plan.{Nobody, Plan, Through}
use Rattle.span_registry.specs.Question.{single}
use Rattle.span_registry.specs.Subscriber.{SameButExtensions}

-- the layer that is under the filter
abbrev pub layer_of : {L F : Type 0} → FilteredLayer L F → L
layer_of x = x.layer

-- the filter round the layer
abbrev pub filter_of : {L F : Type 0} → FilteredLayer L F → F
filter_of x = x.filter

-- the id of the filter round the layer
abbrev pub id_of : {L F : Type 0} → FilteredLayer L F → FilterId
id_of x = x.id

-- the filtered layer with another layer under its filter
abbrev pub with_layer : {L F : Type 0} → FilteredLayer L F → L → FilteredLayer L F
with_layer x l = record x { layer = l }

-- the filtered layer with another filter round its layer
abbrev pub with_filter : {L F : Type 0} → FilteredLayer L F → F → FilteredLayer L F
with_filter x f = record x { filter = f }

-- a filtered layer is this layer under this filter, which has no number
pub record IsUnnumbered {L F : Type 0} (x : FilteredLayer L F) (layer : L) (filter : F) : Type
    0 where
  pub inner : layer_of x ≡ layer
  pub own : filter_of x ≡ filter
  pub id : is_attached (id_of x) ≡ false

-- the number of a filter's id: none where the id is unattached
abbrev pub IsNumber : FilterId → Option ℕ → Type 0
IsNumber id None = is_attached id ≡ false
IsNumber id (Some n) = (is_attached id ≡ true) × (has_filter id ≡ single n) × (n < LIMIT)

-- the form of a filtered layer: the number of its filter's id, what its filter answers, and its
-- layer's form
abbrev pub FilteredForm : FilterId → (Behaviour → Type 0) → (Form → Type 0) → Form → Type 0
FilteredForm id answers layer (Filtered n a f) = IsNumber id n × answers a × layer f
FilteredForm id answers layer other = ⊥

-- filters are notified of new spans, records, enters, exits and closes alone
abbrev pub Hooked : {F : Type 0} → FilterSteps F → FilterSteps F
Hooked hooked f (OnEvent e) lane under v g w = (g ≡ f) × (w ≡ v)
Hooked hooked f (OnFollows id other) lane under v g w = (g ≡ f) × (w ≡ v)
Hooked hooked f (OnIdChange id other) lane under v g w = (g ≡ f) × (w ≡ v)
Hooked hooked f (OnNewSpan attrs id) lane under v g w =
    hooked f (OnNewSpan attrs id) lane under v g w
Hooked hooked f (OnRecord id values) lane under v g w =
    hooked f (OnRecord id values) lane under v g w
Hooked hooked f (OnEnter id) lane under v g w = hooked f (OnEnter id) lane under v g w
Hooked hooked f (OnExit id) lane under v g w = hooked f (OnExit id) lane under v g w
Hooked hooked f (OnClose id) lane under v g w = hooked f (OnClose id) lane under v g w

-- filter and layer are notified: the filter first, which writes extensions alone, then its layer in
-- what the filter left; both under a mask with the filter in it
pub record GoThrough {F L : Type 0} (hooked : FilterSteps F) (stepped : LayerSteps L)
    (id : FilterId) (f : F) (x : L) (p : Plan) (e : Notice) (lane : ℕ) (under : FilterSet)
    (v : RegistryState) (g : F) (y : L) (w : RegistryState) : Type 0 where
  pub between : RegistryState
  pub extensions : SameButExtensions v between
  pub filter : Hooked hooked f e lane (union under (has_filter id)) v g between
  pub layer : stepped x p e lane (union under (has_filter id)) between y w

-- how a filtered layer goes on: filter and layer are both notified, or they and the registry are
-- unchanged
abbrev pub FilteredSteps : {F L : Type 0} → FilterSteps F → LayerSteps L → FilterId → F → L → Plan
    → Notice → ℕ → FilterSet → RegistryState → F → L → RegistryState → Type 0
FilteredSteps hooked stepped id f x Nobody e lane under v g y w = (g ≡ f) × (y ≡ x) × (w ≡ v)
FilteredSteps hooked stepped id f x (Through p) e lane under v g y w =
    GoThrough hooked stepped id f x p e lane under v g y w
FilteredSteps hooked stepped id f x other e lane under v g y w = ⊥

-- what the leaves under a filter were notified of is what those of its layer were; the filter
-- itself is no leaf
abbrev pub FilteredHears : {L : Type 0} → HearSteps L → HearSteps L
FilteredHears hears x (Under p) h y = hears x p h y
FilteredHears hears x other h y = ⊤
