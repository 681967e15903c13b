-- What a notified stack keeps of its form: how its parts stand together, the filters' numbers, and
-- all interests and hints.
use Rattle.std.specs.Prelude.{◌≡◌, true}
use Rattle.span_core.specs.declared.event.Event.{Event}
use Rattle.span_core.specs.declared.metadata.Metadata.{Metadata}
use Rattle.span_registry.specs.Behaviour.{Behaviour, AreHonest, SameInterestAndHint}
use Rattle.span_registry.specs.Form.{Terminal, Filtered, Form, Leaf, Parts}
use Rattle.span_registry.specs.View.{View}

-- a behaviour refuses nothing, in any view
pub record RefusesNothing (a : Behaviour) : Type 0 where
  pub enabled : (m : Metadata) (v : View) → a.enabled m v ≡ true
  pub event : (e : Event) (v : View) → a.event e v ≡ true

-- the answers b, where the answers were a: interest and hint are the same, and b is honest where a
-- was, and refuses nothing where a did
pub record AnswersKeep (a b : Behaviour) : Type 0 where
  pub same : SameInterestAndHint a b
  pub honest : AreHonest a → AreHonest b
  pub quiet : RefusesNothing a → RefusesNothing b

-- the form g, where the form was f: parts stand together as they did, filters have the numbers that
-- they had, all have the interest and the hint that they had, what was honest is so still, and a
-- leaf that refused nothing refuses nothing still
abbrev pub KeepsForm : Form → Form → Type 0
KeepsForm (Leaf still a) (Leaf quiet b) = (quiet ≡ still) × AnswersKeep a b
KeepsForm (Filtered n a f) (Filtered m b g) =
    (m ≡ n) × SameInterestAndHint a b × (AreHonest a → AreHonest b) × KeepsForm f g
KeepsForm (Parts k o i) (Parts l p j) = (l ≡ k) × KeepsForm o p × KeepsForm i j
KeepsForm (Terminal v) (Terminal w) = w ≡ v
KeepsForm f g = ⊥

-- some form is had that keeps what this one had
abbrev pub HasKeptForm : (Form → Type 0) → Form → Type 0
HasKeptForm has f = (g : Form) × has g × KeepsForm f g
