-- What a layer of the tests answers.
use Rattle.std.specs.Prelude.{◌≡◌, Bool, false, None}
use Rattle.span_core.specs.declared.interest.Interest.TheVariants.{Sometimes}
use Rattle.span_layers.specs.Layer.{LayerSteps}
use Rattle.span_registry.specs.Behaviour.{Behaviour}
use Rattle.span_registry.specs.Plan.{Itself}

-- whether metadata pass, and whether events do, whatever they are
abbrev pub fixed_answers : Bool → Bool → Behaviour
fixed_answers metadata events = record {
  enabled = λ m v. metadata;
  event = λ e v. events;
  interest = λ m. Sometimes;
  hint = None;
  takes = λ l. false;
}

-- the plan is a leaf's, and it stays with its answers
abbrev pub FixedSteps : {L : Type 0} → (L → Bool) → (L → Bool) → LayerSteps L
FixedSteps metadata events x p e lane under v y w =
    (p ≡ Itself) × (metadata y ≡ metadata x) × (events y ≡ events x)
