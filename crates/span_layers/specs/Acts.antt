-- How the filters in a layer act, path by path: a layer made of parts has the paths of its parts.
use Rattle.std.specs.Prelude.{◌≡◌, ℕ, List, [], ◌∷◌, None, Option, Some}
use Rattle.span_core.specs.Filters.{FilterSet}
use Rattle.span_layers.specs.Layer.{LayerSteps}
use Rattle.span_store.specs.Store.{RegistryState}
use Rattle.span_registry.specs.Behaviour.{Notice}
use Rattle.span_registry.specs.Conducts.{ActsAt, ActsNow, ActsOn, ArePlainConducts, Conducts}
use Rattle.span_registry.specs.Form.{Form}
use Rattle.span_registry.specs.Position.{Here, Inner, Outer, Position}
use Rattle.span_registry.specs.Plan.{Plan}

-- the law of the paths of a layer: they are of plain filters, whose conducts say what these now
-- answer, and go on with each notice; putting the layer in use makes no difference to them
pub record PathLaws {L : Type 0} (has_form : L → Form → Type 0) (stepped : LayerSteps L)
    (registered : L → L → Type 0) (acts_at : ActsAt L) : Type 0 where
  pub plain : (x : L) (position : Position) (cs : Conducts) → acts_at x position cs
      → ArePlainConducts cs
  pub now : (x : L) (position : Position) (cs : Conducts) (f : Form) → acts_at x position cs
      → has_form x f → ActsNow f position cs
  pub goes_on : (x : L) (p : Plan) (e : Notice) (lane : ℕ) (under : FilterSet) (v : RegistryState)
      (y : L) (w : RegistryState) (position : Position) (cs : Conducts)
      → stepped x p e lane under v y w → acts_at x position cs
      → ActsOn acts_at y position p e lane under v cs
  pub put_in_use : (x y : L) (position : Position) (cs : Conducts) → registered x y
      → acts_at x position cs → acts_at y position cs

-- the path of a leaf has no filter
abbrev pub LeafActs : {L : Type 0} → ActsAt L
LeafActs x Here cs = cs ≡ []
LeafActs x position cs = ⊥

-- the paths of a list: each member has its own. The first stands in the outer part, the second in
-- the inner one's outer part, and so on
abbrev pub ListActs : {L : Type 0} → ActsAt L → ActsAt (List L)
ListActs acts_at (x ∷ xs) (Outer position) cs = acts_at x position cs
ListActs acts_at (x ∷ xs) (Inner position) cs = ListActs acts_at xs position cs
ListActs acts_at xs position cs = ⊥

-- the paths of a layer that may be absent: its own where it is there, else none
abbrev pub OptionActs : {L : Type 0} → ActsAt L → ActsAt (Option L)
OptionActs acts_at (Some x) position cs = acts_at x position cs
OptionActs acts_at None position cs = ⊥
