-- Filters as layers: leaves that answer as the filter does, for all layers, and whose hooks do
-- nothing.
use Rattle.std.specs.Prelude.{◌≡◌, true}
use Rattle.span_registry.specs.Behaviour.{Behaviour}
use Rattle.span_registry.specs.Form.{Form, Leaf}

-- a leaf with answers like these, whose hooks write extensions alone
abbrev pub VetoForm : (Behaviour → Type 0) → Form → Type 0
VetoForm has f = (a : Behaviour) × has a × (f ≡ Leaf true a)
