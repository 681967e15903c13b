-- What a boxed layer keeps: it has the form of the object in the box, and goes on as that does.
use Rattle.std.specs.Prelude.{◌≡◌, ℕ, [], ◌++◌}
use Rattle.span_boxed.specs.declared.boxed.BoxedLayer.{BoxedLayer}
use Rattle.span_core.specs.Filters.{FilterSet}
use Rattle.span_targets.specs.declared.setting.Setting.{Setting}
use Rattle.span_layers.specs.Layer.{IsLeaf, LayerSteps}
use Rattle.span_store.specs.Store.{RegistryState}
use Rattle.span_registry.specs.Behaviour.{Notice}
use Rattle.span_registry.specs.Conducts.{ActsAt, ActsNow, ActsOn, ArePlainConducts, Conducts, reloading}
use Rattle.span_registry.specs.Form.{Form}
use Rattle.span_registry.specs.KeptForm.{HasKeptForm}
use Rattle.span_registry.specs.Reload.{FollowsReload, ReloadSteps}
use Rattle.span_registry.specs.Path.{mask_at}
use Rattle.span_registry.specs.Plan.{Itself, Plan}
use Rattle.span_registry.specs.Position.{Heard, HearSteps, Position, heard_by, told_in}

-- the filters on the path at a position have these conducts, which are plain, and say what the
-- filters now answer
pub record ActsPlainly (has : Form → Type 0) (acts : Position → Conducts → Type 0)
    (position : Position) (cs : Conducts) : Type 0 where
  pub acted : acts position cs
  pub plain : ArePlainConducts cs
  pub now : (f : Form) → has f → ActsNow f position cs

-- the conducts on the paths of an object, where they are plain and say what the filters now answer
abbrev pub ActsPlainlyAt : {L : Type 0} → (L → Form → Type 0) → ActsAt L → ActsAt L
ActsPlainlyAt form acts_at x = ActsPlainly (form x) (acts_at x)

-- a layer that is notified goes on by its step, and keeps the laws: it has a form that keeps what
-- it had, the leaf at each position is notified of what the plan says, and each path acts on; a
-- layer that is a leaf is notified as one, and no form that it has is of another kind
pub record StepsLawfully {L : Type 0} (form : L → Form → Type 0) (steps : LayerSteps L)
    (hears : HearSteps L) (acts_at : ActsAt L) (x : L) (p : Plan) (e : Notice) (lane : ℕ)
    (under : FilterSet) (v : RegistryState) (y : L) (w : RegistryState) : Type 0 where
  pub taken : steps x p e lane under v y w
  pub follows : (f : Form) → form x f → HasKeptForm (form y) f
  pub heard : (position : Position) (f : Form) → form x f
      → hears x position (heard_by p position (told_in e v.store lane (mask_at f position under))) y
  pub acts_on : (position : Position) (cs : Conducts) → acts_at x position cs
      → ActsOn (ActsPlainlyAt form acts_at) y position p e lane under v cs
  pub alone : (f : Form) → form x f → IsLeaf f → p ≡ Itself
  pub kind : (f g : Form) → form x f → IsLeaf f → form x g → IsLeaf g

-- a layer that is put in use has a form that keeps what it had, and its paths act as they did
pub record RegistersLawfully {L : Type 0} (form : L → Form → Type 0) (registered : L → L → Type 0)
    (acts_at : ActsAt L) (x y : L) : Type 0 where
  pub taken : registered x y
  pub follows : (f : Form) → form x f → HasKeptForm (form y) f
  pub acts_still : (position : Position) (cs : Conducts) → acts_at x position cs
      → ActsPlainlyAt form acts_at y position cs

-- the object in a box becomes this one: the box then holds another value of the same type
abbrev pub ChangesInside : {I : Type 0} {V : I → Type 0}
    → ((x : BoxedLayer I V) → V x.object.vtable → V x.object.vtable → Type 0) → BoxedLayer I V
    → BoxedLayer I V → Type 0
ChangesInside {V = V} change x y =
    (z : V x.object.vtable) × (y.object ≡ record x.object { value = z }) × change x x.object.value z

-- the object in a box is notified and goes on by its step: the box then holds another value of the
-- same type
abbrev pub StepsInside : {I : Type 0} {V : I → Type 0}
    → ((x : BoxedLayer I V) → LayerSteps (V x.object.vtable)) → LayerSteps (BoxedLayer I V)
StepsInside steps x p e lane under v y w =
    ChangesInside (λ b o z. steps b o p e lane under v z w) x y

-- what the leaf at a position of the object in a box was notified of
abbrev pub HearsInside : {I : Type 0} {V : I → Type 0}
    → ((x : BoxedLayer I V) → HearSteps (V x.object.vtable)) → HearSteps (BoxedLayer I V)
HearsInside hears x position h y = ChangesInside (λ b o z. hears b o position h z) x y

-- a layer that is reloaded goes on by its step, and keeps the laws: it has a form in which that
-- filter alone answers otherwise, no leaf is notified, each path goes on by the setting, and a leaf
-- is unchanged
pub record ReloadsLawfully {L : Type 0} (form : L → Form → Type 0) (reloaded : ReloadSteps L)
    (hears : HearSteps L) (acts_at : ActsAt L) (x : L) (n : ℕ) (l : Setting) (y : L) : Type
    0 where
  pub taken : reloaded x n l y
  pub follows : (f : Form) → form x f → FollowsReload (form y) n f
  pub heard : (position : Position) → hears x position [] y
  pub acts_on : (position : Position) (cs : Conducts) → acts_at x position cs
      → ActsPlainlyAt form acts_at y position (reloading n l cs)
  pub leaf : (f : Form) → form x f → IsLeaf f → y ≡ x

-- the object in a box is reloaded: the box then holds another value of the same type
abbrev pub ReloadsInside : {I : Type 0} {V : I → Type 0}
    → ((x : BoxedLayer I V) → ReloadSteps (V x.object.vtable)) → ReloadSteps (BoxedLayer I V)
ReloadsInside reloaded x n l y = ChangesInside (λ b o z. reloaded b o n l z) x y

-- what the leaf at a position was notified of, in turn: nothing, or further notices where the
-- object was notified; reloading adds none
pub data HearsInTurn {L : Type 0} (form : L → Form → Type 0) (stepped : LayerSteps L)
    (reloaded : ReloadSteps L) (x : L) (position : Position) : Heard → L → Type 0 where
  Nothing : HearsInTurn form stepped reloaded x position [] x
  Further : {h : Heard} {y z : L} → HearsInTurn form stepped reloaded x position h y
      → (p : Plan) (e : Notice) (lane : ℕ) (under : FilterSet) (v w : RegistryState) (f : Form)
      → stepped y p e lane under v z w → form y f
      → HearsInTurn form stepped reloaded x position
      (h ++ heard_by p position (told_in e v.store lane (mask_at f position under))) z
  Reloaded : {h : Heard} {y z : L} → HearsInTurn form stepped reloaded x position h y
      → (n : ℕ) (l : Setting) → reloaded y n l z
      → HearsInTurn form stepped reloaded x position h z

-- what the leaf at a position was notified of, where the object went on lawfully each time
abbrev pub HearsLawfully : {L : Type 0} → (L → Form → Type 0) → LayerSteps L → ReloadSteps L
    → HearSteps L → ActsAt L → HearSteps L
HearsLawfully form steps reloaded hears acts_at =
    HearsInTurn form (StepsLawfully form steps hears acts_at)
    (ReloadsLawfully form reloaded hears acts_at)
