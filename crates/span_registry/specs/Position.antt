-- Where leaves stand, whom a plan notifies there, and what a leaf was notified of.
use Rattle.std.specs.Prelude.{⊤, ℕ, Bool, true, false, if◌then◌else◌, List, [], ◌∷◌, ◌++◌}
use Rattle.std.specs.List.{FoldsTo}
use Rattle.span_core.specs.Filters.{FilterSet}
use Rattle.span_store.specs.Store.{Store}
use Rattle.span_registry.specs.Behaviour.{Notice}
use Rattle.span_registry.specs.Plan.{Both, Itself, Plan, Through}
use Rattle.span_registry.specs.View.{View, plain_view}

-- where a leaf or a filter stands: there itself, under a filter, in the outer part, or in the inner
-- one
pub data Position : Type 0 where
  Here : Position
  Under : Position → Position
  Outer : Position → Position
  Inner : Position → Position

-- whether the leaf or the filter at a position is notified by a plan
abbrev pub is_notified : Plan → Position → Bool
is_notified Itself Here = true
is_notified (Through p) Here = true
is_notified (Through p) (Under position) = is_notified p position
is_notified (Both p q) (Outer position) = is_notified p position
is_notified (Both p q) (Inner position) = is_notified q position
is_notified other position = false

-- one thing that a leaf was notified of: on which lane, of what, and what its own context showed
-- then, extensions aside
pub record Told : Type 0 where
  pub lane : ℕ
  pub notice : Notice
  pub view : View

-- what a leaf under these filters is notified of, by a notice that is given in this store
abbrev pub told_in : Notice → Store → ℕ → FilterSet → Told
told_in e s lane mask = record { lane = lane; notice = e; view = plain_view s lane mask }

-- what a leaf was notified of, first things first
abbrev pub Heard : Type 0
Heard = List Told

-- the notices that a plan gives the leaf at a position: this one, or none
abbrev pub heard_by : Plan → Position → Told → Heard
heard_by plan position told = if is_notified plan position then told ∷ [] else []

-- which leaf, by its position, was notified of which notices, from one value to another
abbrev pub HearSteps : Type 0 → Type 1
HearSteps T = T → Position → Heard → T → Type 0

-- the law of notices to leaves: a leaf that is notified of nothing may be unchanged; and one list
-- after another is both in a row
pub record HearLaws {T : Type 0} (hears : HearSteps T) : Type 0 where
  pub nothing : (x : T) (position : Position) → hears x position [] x
  pub further : (x y z : T) (position : Position) (h k : Heard) → hears x position h y
      → hears y position k z
      → hears x position (h ++ k) z

-- a leaf is notified of these one by one, each by its own step; no leaf stands at another position
abbrev pub LeafHears : {T : Type 0} → (T → Told → T → Type 0) → HearSteps T
LeafHears goes x Here h y = FoldsTo goes x h y
LeafHears goes x other h y = ⊤
