-- Records of `log` that are sent as events.
use Rattle.std.specs.Prelude.{◌≡◌, ◌⊎◌, ℕ, Bool, List, Option, Result, Err}
use Rattle.log.specs.Record.{record_args, record_metadata}
use Rattle.log.specs.declared.record.Record.{Record}
use Rattle.span_core.specs.declared.error.TraceError.TheVariants.{OutOfMemory}
use Rattle.span_core.specs.declared.error.TraceError.{TraceError}
use Rattle.span_core.specs.declared.event.Event.{Event}
use Rattle.span_core.specs.declared.span.Lane.{Lane}
use Rattle.span_dispatch.specs.Contract.{SendsEvent, SubscriberOf}
use Rattle.span_dispatch.specs.declared.dispatch.Dispatch.{Dispatch}
use Rattle.span_log.specs.Event.{IsEventOf}

module _ {S : Type 0} (s : SubscriberOf S) where
  -- a record was sent as its event; or memory for its message was refused, and nothing changed
  abbrev pub Forwards : {D K P : Type 0} → (D → Option (List ℕ)) → Lane → Record D K P
      → Result Bool TraceError → Dispatch S → Dispatch S → Type 0
  Forwards output lane r given old new =
      ((e : Event) × IsEventOf (record_metadata r) (output (record_args r)) e
      × SendsEvent s lane e given old new)
      ⊎ ((given ≡ Err OutOfMemory) × (new ≡ old))
