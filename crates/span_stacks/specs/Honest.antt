-- Honest stacks: those whose filters and leaves keep the rules that all promises rest on.
use Rattle.std.specs.Prelude.{◌≡◌, ⊤, ◌⊎◌, ℕ, Bool, true, false, IsTrue}
use Rattle.span_stacks.specs.Verdict.{HasOwnNumbers}
use Rattle.span_registry.specs.Behaviour.{AreHonest}
use Rattle.span_registry.specs.KeptForm.{RefusesNothing}
use Rattle.span_registry.specs.Form.{Absent, Terminal, Base, End, Filtered, Form, InList, InPair, Leaf, OnSubscriber, Parts}
use Rattle.span_registry.specs.Reload.{KeepsRules}

-- the answers of each filter and each leaf of a form are honest
abbrev pub HasHonestAnswers : Form → Type 0
HasHonestAnswers (Leaf still a) = AreHonest a
HasHonestAnswers (Filtered n a f) = AreHonest a × HasHonestAnswers f
HasHonestAnswers (Parts joint o i) = HasHonestAnswers o × HasHonestAnswers i
HasHonestAnswers (Terminal v) = ⊤

-- a layer in which nothing is absent and no list is empty: all its filters and leaves answer
-- honestly, hooks write extensions alone, and within a filter or a list no leaf refuses anything.
-- The rest of a list may be any such layer. The truth value says whether the layer stands within a
-- filter or a list
abbrev pub IsBuiltLayer : Bool → Form → Type 0
IsBuiltLayer within (Leaf still a) = IsTrue still × AreHonest a × (IsTrue within → RefusesNothing a)
IsBuiltLayer within (Filtered n a f) = AreHonest a × IsBuiltLayer true f
IsBuiltLayer within (Parts InPair o i) = IsBuiltLayer within o × IsBuiltLayer within i
IsBuiltLayer within (Parts InList o i) =
    IsBuiltLayer true o × ((i ≡ Terminal End) ⊎ IsBuiltLayer true i)
IsBuiltLayer within other = ⊥

-- a layer that keeps a stack honest: absent as a whole, or built of honest parts
abbrev pub IsHonestLayer : Form → Type 0
IsHonestLayer f = (f ≡ Terminal Absent) ⊎ IsBuiltLayer false f

-- a stack of honest layers, one on another, on a registry
abbrev pub IsBuiltStack : Form → Type 0
IsBuiltStack (Terminal Base) = ⊤
IsBuiltStack (Parts OnSubscriber o i) = IsHonestLayer o × IsBuiltStack i
IsBuiltStack other = ⊥

-- a stack on a registry that handed out this many filters is honest: its filters' numbers are
-- distinct and of these, and its layers are honest
pub record IsHonestStack (f : Form) (filters : ℕ) : Type 0 where
  pub numbers : HasOwnNumbers f filters
  pub built : IsBuiltStack f

-- the law: a stack that keeps the rules of its form stays honest
abbrev pub HonestyIsKept : Type 0
HonestyIsKept =
    (f g : Form) (filters : ℕ) → KeepsRules f g → IsHonestStack f filters → IsHonestStack g filters
