-- What the macros ask of a dispatcher.
use Rattle.std.specs.Prelude.{◌≡◌, ◌⊎◌, Bool, true, false, List, Option, None, Result, Ok, Err}
use Rattle.span_core.specs.declared.error.TraceError.{TraceError}
use Rattle.span_core.specs.declared.event.Event.{Event}
use Rattle.span_core.specs.declared.field.FieldValue.{FieldValue}
use Rattle.span_core.specs.declared.metadata.Metadata.{Metadata}
use Rattle.span_core.specs.declared.span.Attributes.{Attributes}
use Rattle.span_core.specs.declared.span.Id.{Id}
use Rattle.span_core.specs.declared.span.Lane.{Lane}
use Rattle.span_dispatch.specs.Contract.{OpensSpan, Probes, SendsEvent, SubscriberOf}
use Rattle.span_dispatch.specs.declared.dispatch.Dispatch.{Dispatch}
use Rattle.span_macros.specs.Made.{Callsite, IsEventOf, IsSpanOf, ShowsCallsite}
use Rattle.span_macros.specs.Span.{LeavesIfMade, OpensAndEnters, RefusesToEnter}

-- what a function gives whose block gave this, where the span was left so: a refusal, else what the
-- block gave
abbrev pub given_after : {B : Type 0} → Result B TraceError → Result Bool TraceError
    → Result B TraceError
given_after value (Ok closes) = value
given_after value (Err e) = Err e

-- what is done once a probe has this answer: where it is yes, the request; where it is no, the
-- answer says dropped and nothing else is done; where it is refused, so is the whole
abbrev pub GoesOnIfWanted : {S A : Type 0} → Result Bool TraceError → A → Type 0
    → Result A TraceError → Dispatch S → Dispatch S → Type 0
GoesOnIfWanted (Ok true) dropped asks given between new = asks
GoesOnIfWanted (Ok false) dropped asks given between new = (given ≡ Ok dropped) × (new ≡ between)
GoesOnIfWanted (Err e) dropped asks given between new = (given ≡ Err e) × (new ≡ between)

module _ {S : Type 0} (s : SubscriberOf S) where
  -- an event of which this holds was sent
  abbrev pub Sends : (Event → Type 0) → Lane → Result Bool TraceError → Dispatch S → Dispatch S
      → Type 0
  Sends Is lane given old new = (e : Event) × Is e × SendsEvent s lane e given old new

  -- a span of which this holds was asked for
  abbrev pub Opens : (Attributes → Type 0) → Lane → Result (Option Id) TraceError → Dispatch S
      → Dispatch S → Type 0
  Opens Is lane given old new =
      (attrs : Attributes) × Is attrs × OpensSpan s lane attrs given old new

  -- a probe asked whether metadata of this callsite are wanted; where they are, this request with
  -- them was made behind it
  pub record AsksFirst {A : Type 0} (site : Callsite) (lane : Lane) (dropped : A)
      (asks : Metadata → Dispatch S → Type 0) (given : Result A TraceError) (old new : Dispatch S)
      : Type 0 where
    pub metadata : Metadata
    pub shown : ShowsCallsite site metadata
    pub wanted : Result Bool TraceError
    pub between : Dispatch S
    pub probed : Probes s lane metadata wanted old between
    pub goes : GoesOnIfWanted wanted dropped (asks metadata between) given between new

  -- an event of this callsite with such values was sent, if a probe found that it is wanted
  abbrev pub AsksThenSends : Callsite → (List FieldValue → Type 0) → Lane → Result Bool TraceError
      → Dispatch S → Dispatch S → Type 0
  AsksThenSends site Are lane given old new =
      AsksFirst site lane false
      (λ m between. Sends (IsEventOf m site.fields Are) lane given between new) given old new

  -- a span of this callsite with such values was asked for, if a probe found that it is wanted
  abbrev pub AsksThenOpens : Callsite → (List FieldValue → Type 0) → Lane
      → Result (Option Id) TraceError → Dispatch S → Dispatch S → Type 0
  AsksThenOpens site Are lane given old new =
      AsksFirst site lane None
      (λ m between. Opens (IsSpanOf m site.fields Are) lane given between new) given old new

  module _ {B : Type 0} (Block : Result B TraceError → Dispatch S → Dispatch S → Type 0) where
    -- a lane entered a span, a block was run and did this, and then the lane left the span; without
    -- a span the block alone was run
    pub record RunsWithin (lane : Lane) (attrs : Attributes) (answer : Result B TraceError)
        (old new : Dispatch S) : Type 0 where
      pub made : Option Id
      pub within : Dispatch S
      pub ended : Dispatch S
      pub value : Result B TraceError
      pub closes : Result Bool TraceError
      pub entered : OpensAndEnters s lane attrs old within made
      pub block : Block value within ended
      pub left : LeavesIfMade s lane made closes ended new
      pub given : answer ≡ given_after value closes

    -- a block was run within a span whose attributes this holds of; or the span was refused, and no
    -- block was run
    abbrev pub RunsInSpan : (Attributes → Type 0) → Lane → Result B TraceError → Dispatch S
        → Dispatch S → Type 0
    RunsInSpan Is lane given old new =
        (attrs : Attributes) × Is attrs
        × (RunsWithin lane attrs given old new
        ⊎ ((e : TraceError) × (given ≡ Err e) × RefusesToEnter s lane attrs old new e))
