-- A layer that hands each line to a writer as it comes.
use Rattle.std.specs.Prelude.{◌≡◌, ◌⊎◌, ℕ, List, Option}
use Rattle.span_layers.specs.Observe.{ObserverSteps}
use Rattle.span_registry.specs.Behaviour.{Notice}
use Rattle.span_registry.specs.View.{View, plain_view}
use Rattle.span_fmt.specs.Form.{FormMisses, FormSteps}
use Rattle.span_fmt.specs.Outlet.{Puts, without_line}
use Rattle.span_fmt.specs.declared.outlet.Outlet.{Outlet}
use Rattle.span_fmt.specs.declared.stream.Stream.{Stream}

module _ {F W : Type 0} where
  -- the form of a stream
  abbrev pub form_of : Stream F W → F
  form_of x = x.form

  -- the writer of a stream, and what became of lines
  abbrev pub outlet_of : Stream F W → Outlet W
  outlet_of x = x.outlet

module _ {F W : Type 0} (gives : FormSteps F) (misses : FormMisses F)
    (contents : W → Option (List ℕ)) where
  -- a stream is notified: its form gives a line, which is handed on; or the form finds no memory,
  -- and the line is lost
  abbrev pub Streams : Notice → View → Stream F W → Stream F W → Type 0
  Streams e v x y =
      ((line : List ℕ) × gives (form_of x) e v line (form_of y)
      × Puts contents line (outlet_of x) (outlet_of y))
      ⊎ (misses (form_of x) e v (form_of y) × (outlet_of y ≡ without_line (outlet_of x)))

  -- a stream goes on so by what its context shows, extensions aside, and leaves the registry
  -- unchanged
  abbrev pub stream_steps : ObserverSteps (Stream F W)
  stream_steps x e lane under v y w = Streams e (plain_view v.store lane under) x y × (w ≡ v)
