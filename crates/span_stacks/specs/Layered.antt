-- An outer part over an inner one.
use Rattle.std.specs.Prelude.{◌≡◌, ⊤, ℕ}
use Rattle.span_core.specs.Filters.{FilterSet}
use Rattle.span_layers.specs.Layer.{LayerSteps}
use Rattle.span_stacks.specs.declared.layered.Layered.{Layered}
use Rattle.span_store.specs.Store.{RegistryState}
use Rattle.span_registry.specs.Behaviour.{Notice}
use Rattle.span_registry.specs.Hooks.{StackSteps, no_filter}
use Rattle.span_registry.specs.Position.{Heard, HearSteps, Inner, Outer, Position}
use Rattle.span_registry.specs.Plan.{Both, Plan}
use Rattle.span_registry.specs.Subscriber.{SameButExtensions}

-- the outer part of two
abbrev pub outer_of : {L I : Type 0} → Layered L I → L
outer_of x = x.layer

-- the inner part of two
abbrev pub inner_of : {L I : Type 0} → Layered L I → I
inner_of x = x.inner

-- the two parts with another outer one
abbrev pub with_outer : {L I : Type 0} → Layered L I → L → Layered L I
with_outer x l = record x { layer = l }

-- the two parts with another inner one
abbrev pub with_inner : {L I : Type 0} → Layered L I → I → Layered L I
with_inner x i = record x { inner = i }

-- both layers of a pair are notified: the inner one first, which writes extensions alone, then the
-- outer one in what the inner one left
pub record GoBoth {L I : Type 0} (outer : LayerSteps L) (inner : LayerSteps I) (x : L) (i : I)
    (p q : Plan) (e : Notice) (lane : ℕ) (under : FilterSet) (v : RegistryState) (y : L) (j : I)
    (w : RegistryState) : Type 0 where
  pub between : RegistryState
  pub extensions : SameButExtensions v between
  pub first : inner i q e lane under v j between
  pub second : outer x p e lane under between y w

-- both layers of a pair are notified, each by its plan
abbrev pub PairSteps : {L I : Type 0} → LayerSteps L → LayerSteps I → L → I → Plan → Notice → ℕ
    → FilterSet → RegistryState → L → I → RegistryState → Type 0
PairSteps outer inner x i (Both p q) e lane under v y j w =
    GoBoth outer inner x i p q e lane under v y j w
PairSteps outer inner x i other e lane under v y j w = ⊥

-- the layers of a stack are notified: those of the inner stack first, which write extensions alone,
-- then the layer on it in what they left. Its hooks leave another registry in the inner stack and
-- nothing else
pub record GoUp {L I : Type 0} (with_registry : I → RegistryState → I) (outer : LayerSteps L)
    (inner : StackSteps I) (x : L) (i : I) (p q : Plan) (e : Notice) (lane : ℕ) (v : RegistryState)
    (y : L) (j : I) (w : RegistryState) : Type 0 where
  pub between : RegistryState
  pub notified : I
  pub extensions : SameButExtensions v between
  pub first : inner i q e lane v notified between
  pub second : outer x p e lane no_filter between y w
  pub rest : j ≡ with_registry notified w

-- the layers of a stack are notified, each by its plan
abbrev pub LayeredSteps : {L I : Type 0} → (I → RegistryState → I) → LayerSteps L → StackSteps I → L
    → I → Plan → Notice → ℕ → RegistryState → L → I → RegistryState → Type 0
LayeredSteps with_registry outer inner x i (Both p q) e lane v y j w =
    GoUp with_registry outer inner x i p q e lane v y j w
LayeredSteps with_registry outer inner x i other e lane v y j w = ⊥

-- what the leaves of two parts were notified of: each part of its own; no leaf stands at another
-- position
abbrev pub LayeredHears : {L I : Type 0} → HearSteps L → HearSteps I → L → I → Position → Heard → L
    → I → Type 0
LayeredHears outer inner x i (Outer p) h y j = outer x p h y
LayeredHears outer inner x i (Inner p) h y j = inner i p h j
LayeredHears outer inner x i other h y j = ⊤
