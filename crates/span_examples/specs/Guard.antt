-- Guards, which leave a span when they are let go.
use Rattle.std.specs.Prelude.{◌≡◌, ◌⊎◌, ℕ, Bool, Ok, Result}
use Rattle.std.specs.Borrow.{GName}
use Rattle.span_core.specs.declared.error.TraceError.{TraceError}
use Rattle.span_core.specs.declared.event.Event.{Event}
use Rattle.span_core.specs.declared.span.Id.{Id}
use Rattle.span_core.specs.declared.span.Lane.{Lane}
use Rattle.span_dispatch.specs.Contract.{AnswersCall, ExitsSpan, RefusesEvent, SendsEvent, SubscriberOf, TakesStep, registry_of}
use Rattle.span_dispatch.specs.declared.call.Call.TheVariants.{Enter}
use Rattle.span_dispatch.specs.declared.request.Answer.TheVariants.{Done}
use Rattle.span_dispatch.specs.declared.dispatch.Dispatch.{Dispatch}
use Rattle.span_store.specs.Step.{Enters, RefusesEnter}
use Rattle.span_registry.specs.Hooks.{Stays}
use Rattle.span_examples.specs.Uses.{stack_in}
use Rattle.span_examples.specs.declared.guard.Entered.{Entered}

module _ {S : Type 0} where
  -- the name of the borrow by which a guard's dispatcher is lent
  abbrev pub loan_of : Entered S → GName
  loan_of g = g.dispatch.ghost_name

  -- the dispatcher of a guard, as it now is
  abbrev pub dispatch_of : Entered S → Dispatch S
  dispatch_of g = g.dispatch.now

  -- the lane that is in a guard's span
  abbrev pub lane_of : Entered S → Lane
  lane_of g = g.lane

  -- the span of a guard
  abbrev pub span_of : Entered S → Id
  span_of g = g.id

  -- a guard is over this dispatcher, for this lane and span
  pub record IsOver (lane : Lane) (id : Id) (d : Dispatch S) (g : Entered S) : Type 0 where
    pub lane_is : lane_of g ≡ lane
    pub span_is : span_of g ≡ id
    pub dispatch_is : dispatch_of g ≡ d

module _ {S : Type 0} (s : SubscriberOf S) where
  -- a guard keeps its loan, lane and span; hooks may have written extensions
  pub record KeepsSpan (old new : Entered S) : Type 0 where
    pub loan : loan_of new ≡ loan_of old
    pub lane : lane_of new ≡ lane_of old
    pub span : span_of new ≡ span_of old
    pub hooks : TakesStep s Stays (dispatch_of old) (dispatch_of new)

  -- a guard's dispatcher serves an event with what is given, on the guard's lane
  abbrev pub SendsBy : Event → Result Bool TraceError → Entered S → Entered S → Type 0
  SendsBy e given old new = SendsEvent s (lane_of old) e given (dispatch_of old) (dispatch_of new)

  -- a guard's lane has left its span
  abbrev pub IsLeft : Entered S → Dispatch S → Type 0
  IsLeft g new = ExitsSpan s (lane_of g) (span_of g) (dispatch_of g) new

  -- each lane has the stack that it had
  abbrev pub KeepsStacks : Dispatch S → Dispatch S → Type 0
  KeepsStacks old new = (n : ℕ) → stack_in (registry_of s new) n ≡ stack_in (registry_of s old) n

  -- a span is entered, an event is served with this answer, and the span is left: three calls
  pub record SendsWithin (lane : Lane) (id : Id) (e : Event) (old new : Dispatch S)
      (sent : Bool) : Type 0 where
    pub first : Dispatch S
    pub last : Dispatch S
    pub enters : TakesStep s (Enters lane id) old first
    pub entered : AnswersCall s (Enter lane id) Done old first
    pub serves : SendsEvent s lane e (Ok sent) first last
    pub leaves : ExitsSpan s lane id last new

  -- why an event within a span is refused: the span can't be entered, or the event is refused
  abbrev pub RefusesWithin : Lane → Id → Event → Dispatch S → TraceError → Type 0
  RefusesWithin lane id e old error =
      RefusesEnter (registry_of s old) lane id error ⊎ RefusesEvent e old error
