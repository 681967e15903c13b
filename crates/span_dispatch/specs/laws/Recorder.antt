-- A recorder keeps the law of every layer.
use Rattle.std.specs.Prelude.{◌≡◌, true}
use Rattle.span_dispatch.specs.Recorder.{RecorderState, recorder_steps}
use Rattle.span_layers.specs.Layer.{HearsBy, LayerLaws}
use Rattle.span_layers.specs.Observe.{open_answers}
use Rattle.span_layers.specs.laws.Leaf.{fixed_laws}
use Rattle.span_registry.specs.Form.{Leaf}

-- a recorder has one form, whatever it recorded, and is notified by its own step
pub recorder_laws : LayerLaws (λ (x : RecorderState) f. f ≡ Leaf true open_answers) recorder_steps
    (HearsBy recorder_steps) (λ x y. y ≡ x)
recorder_laws =
    fixed_laws (Leaf true open_answers) recorder_steps (λ x y. y ≡ x) tt
    (λ x p e lane under v y w s. s.0)
