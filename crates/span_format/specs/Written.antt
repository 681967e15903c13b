-- What a stream of a format writes.
use Rattle.std.specs.Prelude.{◌≡◌, ◌<◌, ℕ, List, Option, false}
use Rattle.std.specs.Io.KnownBytes.{Appends}
use Rattle.span_fmt.specs.Outlet.{is_torn, lost_of, most_lost, writer_of}
use Rattle.span_fmt.specs.Stream.{form_of, outlet_of, stream_steps}
use Rattle.span_fmt.specs.Told.{ObserverHears}
use Rattle.span_fmt.specs.declared.stream.Stream.{Stream}
use Rattle.span_format.specs.Format.{format_gives, format_misses, kept_by, looks_of}
use Rattle.span_format.specs.Told.{heard_lines}
use Rattle.span_format.specs.declared.format.Format.{Format}
use Rattle.span_layers.specs.Observe.{observer_of}
use Rattle.span_layers.specs.declared.observe.Observer.{Observer}
use Rattle.span_registry.specs.Position.{Heard}

module _ {W : Type 0} (contents : W → Option (List ℕ)) where
  -- by all this no line was lost, and none had been cut before
  abbrev pub LosesNone : Stream Format W → Stream Format W → Type 0
  LosesNone x y =
      (is_torn (outlet_of x) ≡ false) × (lost_of (outlet_of x) < most_lost)
      × (lost_of (outlet_of y) ≡ lost_of (outlet_of x))

  -- the writer's bytes, where they are known, grow by this
  abbrev pub Grows : Stream Format W → Stream Format W → List ℕ → Type 0
  Grows x y text = Appends (contents (writer_of (outlet_of x))) (contents (writer_of (outlet_of y))) text

  -- a stream of a format, in a stack, is notified of all this: its writer's bytes grow by exactly
  -- the lines of the events among it, if none is lost
  abbrev pub FormatsAreWritten : Type 0
  FormatsAreWritten =
      (x y : Observer (Stream Format W)) (heard : Heard)
      → ObserverHears (stream_steps format_gives format_misses contents) x heard y
      → LosesNone (observer_of x) (observer_of y)
      → Grows (observer_of x) (observer_of y) (heard_lines (looks_of (form_of (observer_of x)))
      (kept_by (form_of (observer_of x))) heard)
