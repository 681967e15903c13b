-- A leaf that is asked like any other, and does nothing when it is notified.
use Rattle.std.specs.Prelude.{◌≡◌}
use Rattle.span_layers.specs.Layer.{LayerSteps}
use Rattle.span_layers.specs.declared.identity.Identity.{Identity}
use Rattle.span_registry.specs.Plan.{Itself}

-- the layer that enables everything and does nothing
abbrev pub identity : Identity
identity = record {}

-- a leaf that does nothing: the plan is a leaf's, and leaf and registry are unchanged
abbrev pub IdleSteps : {L : Type 0} → LayerSteps L
IdleSteps x p e lane under v y w = (p ≡ Itself) × (y ≡ x) × (w ≡ v)
