-- What is done before the block of `in_span!` and after it.
use Rattle.std.specs.Prelude.{◌≡◌, ◌⊎◌, Bool, true, false, Option, None, Some, Result, Ok, IfErr, IfOk, OnErr}
use Rattle.span_core.specs.Span.{metadata_of, number_of}
use Rattle.span_core.specs.declared.error.TraceError.TheVariants.{OutOfMemory}
use Rattle.span_core.specs.declared.error.TraceError.{TraceError}
use Rattle.span_core.specs.declared.span.Attributes.{Attributes}
use Rattle.span_core.specs.declared.span.Id.{Id}
use Rattle.span_core.specs.declared.span.Lane.{Lane}
use Rattle.span_dispatch.specs.Admission.{learned_if}
use Rattle.span_dispatch.specs.Cache.{is_above_read}
use Rattle.span_dispatch.specs.Call.{DropsSpan, OpensFor}
use Rattle.span_dispatch.specs.declared.call.Call.TheVariants.{DropHandle, Enter, OpenSpan}
use Rattle.span_dispatch.specs.Contract.{AnswersCall, AnswersDrop, ChangesStack, DropsOneHandle, ExitsSpan, GoesByKept, IsSettled, RefusesSpan, SameStack, StaysUpToDate, SubscriberOf, TakesHandle, TakesStep, WantsSpan}
use Rattle.span_dispatch.specs.Serve.{hint_by, kept_by}
use Rattle.span_dispatch.specs.declared.request.Answer.TheVariants.{Done, Dropped, Made, Yes}
use Rattle.span_dispatch.specs.declared.dispatch.Dispatch.{Dispatch}
use Rattle.span_store.specs.Step.{Enters, Exits, RefusesRelease, entered, exited}
use Rattle.span_store.specs.Store.{RegistryState}

-- a span is opened that these attributes ask for, and then its lane is in it
abbrev pub OpensOnStack : Lane → Attributes → Id → RegistryState → RegistryState → Type 0
OpensOnStack lane attrs id s t =
    (m : RegistryState) × OpensFor lane attrs id s m
    × (t ≡ record m { store = entered m.store lane.0 (number_of id) })

-- a lane leaves a span, and then a handle of it is taken; the answer is whether the span closes
abbrev pub LeavesStack : Lane → Id → Bool → RegistryState → RegistryState → Type 0
LeavesStack lane id closes s t =
    DropsSpan id closes (record s { store = exited s.store lane.0 (number_of id) }) t

module _ {S : Type 0} (s : SubscriberOf S) where
  -- a span was opened, and then its lane entered it: the registry took both steps as one, hooks'
  -- extensions aside
  pub record EntersNew (lane : Lane) (attrs : Attributes) (id : Id)
      (old new : Dispatch S) : Type 0 where
    pub between : Dispatch S
    pub opened : AnswersCall s (OpenSpan lane attrs) (Made id) old between
    pub stored : TakesStep s (OpensFor lane attrs id) old between
    pub entered : AnswersCall s (Enter lane id) Done between new
    pub stacked : TakesStep s (Enters lane id) between new
    pub rest : ChangesStack between new
    pub step : TakesStep s (OpensOnStack lane attrs id) old new

  -- a span was opened and entered, if one was made; else the new span was dropped, and the stack is
  -- unchanged
  abbrev pub OpensAndEnters : Lane → Attributes → Dispatch S → Dispatch S → Option Id → Type 0
  OpensAndEnters lane attrs old new (Some id) = EntersNew lane attrs id old new
  OpensAndEnters lane attrs old new None =
      AnswersCall s (OpenSpan lane attrs) Dropped old new × SameStack old new

  -- a span was opened, memory for its lane to enter it was refused, and so its one handle was taken
  -- again
  pub record DropsAgain (lane : Lane) (attrs : Attributes) (e : TraceError)
      (old new : Dispatch S) : Type 0 where
    pub id : Id
    pub between : Dispatch S
    pub error : e ≡ OutOfMemory
    pub opened : AnswersCall s (OpenSpan lane attrs) (Made id) old between
    pub stored : TakesStep s (OpensFor lane attrs id) old between
    pub keeps : kept_by new ≡ learned_if (is_above_read (hint_by new) (metadata_of attrs))
        (kept_by old) (metadata_of attrs)
    pub dropped : AnswersDrop s (DropHandle lane id) (Yes true) between new
    pub taken : TakesHandle s id between new true
    pub rest : ChangesStack between new

  -- why no new span is entered: it was refused, or it was dropped again
  abbrev pub RefusesToEnter : Lane → Attributes → Dispatch S → Dispatch S → TraceError → Type 0
  RefusesToEnter lane attrs old new e =
      (RefusesSpan s lane attrs old e × SameStack old new) ⊎ DropsAgain lane attrs e old new

  -- `open_and_enter`: a call that is decided by metadata, as a new span is
  pub record OpensToEnter (lane : Lane) (attrs : Attributes)
      (given : Result (Option Id) TraceError) (old new : Dispatch S) : Type 0 where
    pub kept : GoesByKept (metadata_of attrs) None (RefusesToEnter lane attrs old new) given old new
    pub up_to_date : StaysUpToDate s old new
    pub asked : WantsSpan s lane attrs old given
    pub entered : IfOk given (OpensAndEnters lane attrs old new)

  -- where no span was closing, a lane left a span and a handle of it was taken, as one step of the
  -- registry, hooks' extensions aside
  abbrev pub LeavesSettled : Lane → Id → Dispatch S → Dispatch S → Bool → Type 0
  LeavesSettled lane id old new closes =
      IsSettled s old → TakesStep s (LeavesStack lane id closes) old new

  -- a lane left a span, and then a handle of it was taken, unless that was refused
  pub record ExitsAndDrops (lane : Lane) (id : Id) (given : Result Bool TraceError)
      (old new : Dispatch S) : Type 0 where
    pub between : Dispatch S
    pub left : ExitsSpan s lane id old between
    pub dropped : DropsOneHandle s lane id given between new
    pub step : IfOk given (LeavesSettled lane id old new)

  -- a lane left a span and a handle of it was taken, if a span was made; else nothing was done, and
  -- no span closed
  abbrev pub LeavesIfMade : Lane → Option Id → Result Bool TraceError → Dispatch S → Dispatch S
      → Type 0
  LeavesIfMade lane (Some id) given old new = ExitsAndDrops lane id given old new
  LeavesIfMade lane None given old new = (given ≡ Ok false) × (new ≡ old)
