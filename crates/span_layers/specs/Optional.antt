-- A layer that may be absent: one that is there acts as it would without the `Some`.
use Rattle.std.specs.Prelude.{◌≡◌, ⊤, Option, Some, None}
use Rattle.span_layers.specs.Layer.{LayerSteps}
use Rattle.span_registry.specs.Form.{Absent, Terminal, Form}
use Rattle.span_registry.specs.Plan.{Nobody}
use Rattle.span_registry.specs.Position.{HearSteps}

-- the form of a layer that may be absent: its own where it is there, else that of an absent one
abbrev pub OptionForm : {L : Type 0} → (L → Form → Type 0) → Option L → Form → Type 0
OptionForm has_form None f = f ≡ Terminal Absent
OptionForm has_form (Some x) f = has_form x f

-- how a layer that may be absent goes on: by its own step where it is there; an absent one and the
-- registry are unchanged, and nobody is notified
abbrev pub OptionSteps : {L : Type 0} → LayerSteps L → LayerSteps (Option L)
OptionSteps stepped None p e lane under v None w = (p ≡ Nobody) × (w ≡ v)
OptionSteps stepped (Some x) p e lane under v (Some y) w = stepped x p e lane under v y w
OptionSteps stepped x p e lane under v y w = ⊥

-- what the leaves of a layer that may be absent were notified of: its own notices where it is
-- there; an absent one has no leaf
abbrev pub OptionHears : {L : Type 0} → HearSteps L → HearSteps (Option L)
OptionHears hears None position h None = ⊤
OptionHears hears (Some x) position h (Some y) = hears x position h y
OptionHears hears x position h y = ⊥

-- a layer that may be absent goes on by this relation where it is there, and stays absent else
abbrev pub OptionGoes : {L : Type 0} → (L → L → Type 0) → Option L → Option L → Type 0
OptionGoes goes None None = ⊤
OptionGoes goes (Some x) (Some y) = goes x y
OptionGoes goes x y = ⊥
