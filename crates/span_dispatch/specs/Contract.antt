-- What the contract of each call of a dispatcher says, and of a list of requests. A word takes what
-- the type of a stack says of it as one value, and dispatchers whole.
use Rattle.std.specs.Prelude.{◌≡◌, ◌⊎◌, ◌&&◌, ℕ, Bool, true, false, List, [], ◌∷◌, ◌++◌, Option, Some, None, Result, Ok, Err, IfErr, IfOk, IfSome, MatchOption, OnErr, OnOk, is_some}
use Rattle.std.specs.{List.FoldsTo, Option.option_map}
use Rattle.std.specs.declared.{alloc.Global.Global, vec.Vec.Vec}
use Rattle.span_core.specs.Event.{event_metadata}
use Rattle.span_core.specs.Span.{asked_parent, metadata_of, number_of}
use Rattle.span_core.specs.declared.error.TraceError.TheVariants.{CallsiteMismatch, NotSettable}
use Rattle.span_core.specs.declared.{error.TraceError.TraceError, level.LevelFilter.LevelFilter}
use Rattle.span_core.specs.declared.{event.Event.Event, pass.Pass.Pass}
use Rattle.span_targets.specs.declared.setting.Setting.{Setting}
use Rattle.span_core.specs.declared.{metadata.Metadata.Metadata, span.Id.Id, span.Lane.Lane}
use Rattle.span_core.specs.declared.span.{Attributes.Attributes, Current.Current, Record.Record}
use Rattle.span_dispatch.specs.Admission.{MayLearn, decided, hint_kept, learned_if}
use Rattle.span_dispatch.specs.Cache.{KeptCallsites, ReadsOnce, RefusesBelow, RefusesInterest, RefusesRoom, is_above_read, with_room}
use Rattle.span_dispatch.specs.Call.{DropsSpan, FindsOpen, OpensFor, current_answer, done_answer, event_answer, span_answer, yes_answer}
use Rattle.span_dispatch.specs.declared.{call.Call.Call, dispatch.Dispatch.Dispatch}
use Rattle.span_dispatch.specs.declared.call.Call.TheVariants.{AddHandle, AskCurrent, DropHandle, Enter, Exit, Follow, OpenSpan, Probe, RecordValues, SendEvent, Reload}
use Rattle.span_dispatch.specs.Outcome.{IsHonest, OutcomeAt, Makes}
use Rattle.span_dispatch.specs.Serve.{IsReady, IsReadyAfter, IsReadyBy, IsReadySomehow, IsServed, KeepsUpToDate, Sees, Served, call_of, forgetful, hint_by, kept_by, stack_of, with_stack}
use Rattle.span_dispatch.specs.Registration.{KeepsRegistered}
use Rattle.span_dispatch.specs.declared.request.Answer.TheVariants.{Done, Dropped}
use Rattle.span_dispatch.specs.declared.request.{Answer.Answer, Request.Request}
use Rattle.span_store.specs.{Closes.HasNoClosing, Store.IsOpen, Store.RegistryState}
use Rattle.span_store.specs.Step as step
use Rattle.span_store.specs.Step.{Clones, Enters, Exits, Opens, RefusesClone, RefusesEnter, RefusesNew, RefusesRelease, RefusesUnlessOpen, Releases, Removal}
use Rattle.span_store.specs.declared.registry.Released.TheVariants.{Closing, StillOpen}
use Rattle.span_registry.specs.{Conducts.ActsAt, Subscriber.AndHooks, Subscriber.SameButExtensions}
use Rattle.span_registry.specs.Form.{Form}
use Rattle.span_registry.specs.{Hooks.StackSteps, Hooks.Stays, Hooks.no_filter, KeptForm.KeepsForm}
use Rattle.span_registry.specs.Reload.{FollowsReload, ReloadSteps, takes_setting}
use Rattle.span_registry.specs.{Position.HearSteps, Question.ShowsBy, Question.event_asked}

-- what the type of a stack says of it: where its registry is; the stack on another registry;
-- whether it may be called; which form it has; how its layers go on when they are notified; what
-- its leaves are notified of; how its filters act; how they take settings; how it is put in use
abbrev pub SubscriberOf : Type 0 → Type 1
SubscriberOf S = record {
  registry : S → RegistryState;
  with_registry : S → RegistryState → S;
  usable : S → Type 0;
  has_form : S → Form → Type 0;
  stepped : StackSteps S;
  hears : HearSteps S;
  acts_at : ActsAt S;
  reloaded : ReloadSteps S;
  registered : S → S → Type 0;
}

-- what a call promises: of what it gave or why it was refused, and of a dispatcher before and after
abbrev pub Promise : Type 0 → Type 0 → Type 1
Promise S A = Result A TraceError → Dispatch S → Dispatch S → Type 0

-- the level of metadata isn't above a dispatcher's cached hint
abbrev pub PassesKept : {S : Type 0} → Metadata → Dispatch S → Type 0
PassesKept m d = is_above_read (hint_by d) m ≡ false

-- why metadata are refused: their level isn't above the cached hint, and their interest can't be
-- had
abbrev pub RefusesMetadata : {S : Type 0} → Metadata → Dispatch S → TraceError → Type 0
RefusesMetadata m d error = RefusesBelow (hint_by d) (kept_by d) m error

-- the shown hint is the cached one, where one is cached
abbrev pub ShowsKept : {S : Type 0} → Dispatch S → Option LevelFilter → Type 0
ShowsKept d hint = IfSome (hint_by d) (λ kept. hint ≡ kept)

-- why an event is refused: its metadata are
abbrev pub RefusesEvent : {S : Type 0} → Event → Dispatch S → TraceError → Type 0
RefusesEvent e d error = RefusesMetadata (event_metadata e) d error

-- the dispatcher's stack is unchanged
abbrev pub SameStack : {S : Type 0} → Dispatch S → Dispatch S → Type 0
SameStack old new = stack_of new ≡ stack_of old

-- nothing of the dispatcher changes but its stack
abbrev pub ChangesStack : {S : Type 0} → Dispatch S → Dispatch S → Type 0
ChangesStack old new = new ≡ with_stack old (stack_of new)

-- nothing of the dispatcher changes but its cache
abbrev pub ChangesKept : {S : Type 0} → Dispatch S → Dispatch S → Type 0
ChangesKept old new = new ≡ record old { cache = new.cache }

-- A call that is decided by metadata goes by what is cached: above the hint it gives what says
-- dropped; below it, a callsite cached with other metadata is refused for that; any other refusal
-- has the reason that is given here. The hint is read once. The metadata's callsite alone may be
-- cached anew, and is unless the call is refused or their level is above the hint.
pub record GoesByKept {S A : Type 0} (m : Metadata) (dropped : A) (refuses : TraceError → Type 0)
    (given : Result A TraceError) (old new : Dispatch S) : Type 0 where
  pub hint : ReadsOnce (kept_by old) (hint_by old) (hint_by new)
  pub learned : MayLearn (kept_by old) m (kept_by new)
  pub keeps : OnOk given (kept_by new ≡ learned_if (is_above_read (hint_by new) m) (kept_by old) m)
  pub above : is_above_read (hint_by new) m ≡ true → given ≡ Ok dropped
  pub mismatch : RefusesMetadata m old CallsiteMismatch → given ≡ Err CallsiteMismatch
  pub refused : IfErr given refuses

-- a call gave a result of which this is the answer, and kept this promise
abbrev pub Gives : {S A : Type 0} → (Result A TraceError → Answer) → Promise S A → Answer
    → Dispatch S → Dispatch S → Type 0
Gives {S} {A} answer_of promise a old new =
    (given : Result A TraceError) × (a ≡ answer_of given) × promise given old new

-- the dispatcher has these callsites cached, and has read no hint yet
pub record KeepsOnly {S : Type 0} (those : KeptCallsites) (d : Dispatch S) : Type 0 where
  pub callsites : kept_by d ≡ those
  pub read : hint_by d ≡ None

module _ {S : Type 0} (s : SubscriberOf S) where
  -- the registry of a dispatcher's stack
  abbrev pub registry_of : Dispatch S → RegistryState
  registry_of d = s.registry (stack_of d)

  -- the registry of the dispatcher's stack is unchanged
  abbrev pub SameRegistry : Dispatch S → Dispatch S → Type 0
  SameRegistry old new = registry_of new ≡ registry_of old

  -- why the registry refuses what is asked of a span
  abbrev pub Refuses : (RegistryState → Id → TraceError → Type 0) → Id → Dispatch S → TraceError
      → Type 0
  Refuses refuses id d e = refuses (registry_of d) id e

  -- what is shown is the current span of the lane
  abbrev pub Shows : Lane → Dispatch S → Current → Type 0
  Shows lane d current = step.ShowsCurrent (registry_of d).store lane current

  -- no span is closing
  abbrev pub IsSettled : Dispatch S → Type 0
  IsSettled d = HasNoClosing (registry_of d).store.spans

  -- the dispatcher's stack is honest by this form
  abbrev pub HonestBy : Form → Dispatch S → Type 0
  HonestBy f d = IsHonest s.registry s.with_registry s.has_form s.stepped s.reloaded f (stack_of d)

  -- the dispatcher's cache is what its stack would answer now, by this form
  abbrev pub CurrentBy : Form → Dispatch S → Type 0
  CurrentBy f d = KeepsUpToDate f (registry_of d).filters d

  -- the dispatcher is ready by a form that keeps this much of the old one
  abbrev pub ReadyAfter : (Form → Form → Type 0) → Form → Dispatch S → Type 0
  ReadyAfter keeps f d =
      IsReadyAfter s.registry s.with_registry s.has_form s.stepped s.reloaded keeps f d

  -- ---- what is promised of an honest stack

  -- a stack that was ready is ready in its dispatcher, by a form with the old interest and hint of
  -- each filter
  abbrev pub BecomesReady : S → Dispatch S → Type 0
  BecomesReady x d =
      (f : Form) → IsReady s.registry s.with_registry s.has_form s.stepped s.reloaded f x
      → ReadyAfter KeepsForm f d

  -- a dispatcher that was ready is ready again, by a form that keeps this much of the old one: all
  -- but one filter's answers, say, or its rules alone
  pub record StaysReadyWith (keeps : Form → Form → Type 0) (old new : Dispatch S) : Type 0 where
    pub again : (f : Form)
        → IsReadyBy s.registry s.with_registry s.has_form s.stepped s.reloaded f old
        → ReadyAfter keeps f new

  -- a dispatcher that was ready is ready again, by a form with the old interest and hint of each
  -- filter
  abbrev pub StaysReady : Dispatch S → Dispatch S → Type 0
  StaysReady old new = StaysReadyWith KeepsForm old new

  -- an honest stack with a cache up to date serves the call with this answer
  abbrev pub AnswersCall : Call → Answer → Dispatch S → Dispatch S → Type 0
  AnswersCall call a old new =
      (f : Form) → HonestBy f old → CurrentBy f old
      → IsServed s.registry s.with_registry s.has_form s.stepped s.reloaded call f (kept_by old)
      (stack_of old) a (kept_by new) (stack_of new)

  -- an honest stack with a cache up to date serves the drop of a handle with this answer, where no
  -- span was closing
  abbrev pub AnswersDrop : Call → Answer → Dispatch S → Dispatch S → Type 0
  AnswersDrop call a old new = IsSettled old → AnswersCall call a old new

  -- the current span is served with what is shown, and nothing changes
  abbrev pub ServesCurrent : Lane → Current → Dispatch S → Type 0
  ServesCurrent lane given d = AnswersCall (AskCurrent lane) (current_answer given) d d

  -- a dispatcher that is ready serves the list of requests with these answers
  abbrev pub ServesList : List Request → Dispatch S → Dispatch S → Vec Answer Global → Type 0
  ServesList requests old new answers =
      IsReadySomehow s.registry s.with_registry s.has_form s.stepped s.reloaded old
      → Served s.registry s.with_registry s.has_form s.stepped s.reloaded s.hears s.acts_at requests
      answers.items old new

  -- whatever is made between two stacks, each leaf is notified of what its path passes of it, as if
  -- the leaf stood alone
  abbrev pub SeesWhatIsMade : Type 0
  SeesWhatIsMade =
      (old new : S) (made : List OutcomeAt)
      → FoldsTo (Makes s.registry s.with_registry s.has_form s.stepped s.reloaded) old made new
      → Sees s.registry s.hears s.acts_at old made new

  -- ---- what is promised of any stack that has a form

  -- a cache that is what the stack would answer, by a form that the stack has, stays so
  abbrev pub StaysUpToDate : Dispatch S → Dispatch S → Type 0
  StaysUpToDate old new =
      (f : Form) → s.has_form (stack_of old) f → CurrentBy f old
      → KeepsUpToDate f (registry_of old).filters new

  -- the truth value says whether a filter with this number takes this setting, by each form that
  -- the stack has
  abbrev pub TakesSetting : ℕ → Setting → Dispatch S → Bool → Type 0
  TakesSetting n w d taken = ShowsBy (s.has_form (stack_of d)) (λ f. takes_setting f n w) taken

  -- for each form that the stack had, it has one in which only the filter with this number answers
  -- otherwise
  abbrev pub ChangesSetting : ℕ → Dispatch S → Dispatch S → Type 0
  ChangesSetting n old new =
      (f : Form) → s.has_form (stack_of old) f → FollowsReload (s.has_form (stack_of new)) n f

  -- the shown hint is the stack's, by each form that the stack has and by which the cache is up to
  -- date
  abbrev pub ShowsHint : Dispatch S → Option LevelFilter → Type 0
  ShowsHint d hint =
      (f : Form) (n : ℕ) → s.has_form (stack_of d) f → KeepsUpToDate f n d
      → hint ≡ hint_kept (kept_by d) f

  -- metadata are found enabled exactly if they are decided so
  abbrev pub WantsMetadata : Lane → Metadata → Dispatch S → Bool → Type 0
  WantsMetadata lane m d wanted =
      (f : Form) → s.has_form (stack_of d) f → CurrentBy f d
      → wanted ≡ (decided (kept_by d) f (registry_of d) lane m).0

  -- a new span is dropped exactly if its metadata aren't found enabled, and refused only if they
  -- are, or if their interest can't be had
  abbrev pub WantsSpan : Lane → Attributes → Dispatch S → Result (Option Id) TraceError → Type 0
  WantsSpan lane attrs d (Ok made) = WantsMetadata lane (metadata_of attrs) d (is_some made)
  WantsSpan lane attrs d (Err e) =
      RefusesInterest (kept_by d) (metadata_of attrs) e
      ⊎ WantsMetadata lane (metadata_of attrs) d true

  -- an event is found enabled exactly if its metadata are, and the stack finds the event so
  abbrev pub WantsEvent : Lane → Event → Dispatch S → Bool → Type 0
  WantsEvent lane e d wanted =
      (f : Form) → s.has_form (stack_of d) f → CurrentBy f d
      → let first = decided (kept_by d) f (registry_of d) lane (event_metadata e) in
      wanted ≡ first.0 && (event_asked f e (registry_of d).store lane.0 no_filter first.1).0

  -- ---- what is promised of any stack at all

  -- the registry takes a step, after which hooks may write extensions
  abbrev pub TakesStep : (RegistryState → RegistryState → Type 0) → Dispatch S → Dispatch S → Type 0
  TakesStep step old new = AndHooks s.registry step (stack_of old) (stack_of new)

  -- the registry takes a step, and no layer is notified
  abbrev pub TakesStepAlone : (RegistryState → RegistryState → Type 0) → Dispatch S → Dispatch S
      → Type 0
  TakesStepAlone step old new =
      step (registry_of old) (registry_of new)
      × (stack_of new ≡ s.with_registry (stack_of old) (registry_of new))

  -- the registry takes this step if a span was made; else the stack is unchanged
  abbrev pub OpensIfMade : (Id → RegistryState → RegistryState → Type 0) → Dispatch S → Dispatch S
      → Option Id → Type 0
  OpensIfMade opens old new made =
      MatchOption made (SameStack old new) (λ id. TakesStep (opens id) old new)

  -- why a new span is refused: its level isn't above the cached hint, and either its interest can't
  -- be had, or the registry has no room or no such parent
  abbrev pub RefusesSpan : Lane → Attributes → Dispatch S → TraceError → Type 0
  RefusesSpan lane attrs d e =
      PassesKept (metadata_of attrs) d × (RefusesInterest (kept_by d) (metadata_of attrs) e
      ⊎ RefusesNew (registry_of d) lane (asked_parent attrs) e)

  -- A handle is taken. Where the span closes by that, it is taken out, and then each parent that
  -- closes by that, with extensions written in between; else no layer is notified.
  abbrev pub TakesHandle : Id → Dispatch S → Dispatch S → Bool → Type 0
  TakesHandle id old new false = TakesStepAlone (Releases id StillOpen) old new
  TakesHandle id old new true =
      (released : RegistryState) × Releases id Closing (registry_of old) released
      × ((closed : List ℕ)
      × Removal SameButExtensions released id closed None (registry_of new))

  -- all that should close when a handle is dropped is closed, and nothing else
  abbrev pub DropsAll : Id → Dispatch S → Dispatch S → Bool → Type 0
  DropsAll id old new closes = TakesStep (DropsSpan id closes) old new

  -- ---- what each call promises, beside `usable`, `ready` and `registered`

  -- `enabled`: a question by metadata; no layer is notified
  pub record Probes (lane : Lane) (m : Metadata) (given : Result Bool TraceError)
      (old new : Dispatch S) : Type 0 where
    pub rest : ChangesKept old new
    pub served : AnswersCall (Probe lane m) (yes_answer given) old new
    pub kept : GoesByKept m false (RefusesMetadata m old) given old new
    pub up_to_date : StaysUpToDate old new
    pub asked : IfOk given (WantsMetadata lane m old)

  -- `register_callsite`: the callsite is cached, unless its level is above the hint or the
  -- dispatcher is uncached
  pub record LearnsCallsite {A : Type 0} (m : Metadata) (given : Result A TraceError)
      (old new : Dispatch S) : Type 0 where
    pub rest : ChangesKept old new
    pub learned : MayLearn (kept_by old) m (kept_by new)
    pub hint : ReadsOnce (kept_by old) (hint_by old) (hint_by new)
    pub keeps : OnOk given
        (kept_by new ≡ learned_if (is_above_read (hint_by new) m) (kept_by old) m)
    pub above : IfErr given (λ e. PassesKept m new)
    pub mismatch : RefusesMetadata m old CallsiteMismatch → given ≡ Err CallsiteMismatch
    pub refused : IfErr given (RefusesMetadata m old)
    pub unchanged : OnErr given (kept_by new ≡ kept_by old)
    pub up_to_date : StaysUpToDate old new

  -- `reserve_callsites`: a caching dispatcher holds memory for this many callsites more; a refusal
  -- leaves what is cached unchanged
  pub record ReservesCallsites {A : Type 0} (n : ℕ) (given : Result A TraceError)
      (old new : Dispatch S) : Type 0 where
    pub rest : ChangesKept old new
    pub held : OnOk given (kept_by new ≡ option_map (with_room n) (kept_by old))
    pub hint : ReadsOnce (kept_by old) (hint_by old) (hint_by new)
    pub refused : IfErr given (RefusesRoom n (kept_by old))
    pub unchanged : OnErr given (kept_by new ≡ kept_by old)
    pub up_to_date : StaysUpToDate old new

  -- `event`: a dropped or refused event leaves the stack unchanged
  pub record SendsEvent (lane : Lane) (e : Event) (given : Result Bool TraceError)
      (old new : Dispatch S) : Type 0 where
    pub served : AnswersCall (SendEvent lane e) (event_answer given) old new
    pub kept : GoesByKept (event_metadata e) false (RefusesEvent e old) given old new
    pub up_to_date : StaysUpToDate old new
    pub asked : IfOk given (WantsEvent lane e old)
    pub store : TakesStep Stays old new
    pub dropped : given ≡ Ok false → SameStack old new
    pub unchanged : OnErr given (SameStack old new)

  -- a call that opens a span by this step, if one is made
  pub record OpensSpanBy (opens : Id → RegistryState → RegistryState → Type 0) (lane : Lane)
      (attrs : Attributes) (given : Result (Option Id) TraceError)
      (old new : Dispatch S) : Type 0 where
    pub served : AnswersCall (OpenSpan lane attrs) (span_answer given) old new
    pub kept : GoesByKept (metadata_of attrs) None (RefusesSpan lane attrs old) given old new
    pub up_to_date : StaysUpToDate old new
    pub asked : WantsSpan lane attrs old given
    pub store : IfOk given (OpensIfMade opens old new)
    pub unchanged : OnErr given (SameStack old new)

  -- `new_span`: a dropped or refused span leaves the stack unchanged
  abbrev pub OpensSpan : Lane → Attributes → Promise S (Option Id)
  OpensSpan lane attrs = OpensSpanBy (OpensFor lane attrs) lane attrs

  -- `new_span` with a pass, whose refusing filters are the span's verdict
  abbrev pub OpensSpanWith : Pass → Lane → Attributes → Promise S (Option Id)
  OpensSpanWith pass lane attrs = OpensSpanBy (Opens lane (step.asked attrs pass)) lane attrs

  -- a call that asks something of a span: nothing changes but the stack, which takes this step;
  -- where the call is refused, nothing changes
  pub record AsksOfSpan {A : Type 0} (call : Call) (steps : Dispatch S → Dispatch S → Type 0)
      (refuses : Dispatch S → TraceError → Type 0) (given : Result A TraceError)
      (old new : Dispatch S) : Type 0 where
    pub rest : ChangesStack old new
    pub served : AnswersCall call (done_answer given) old new
    pub store : OnOk given (steps old new)
    pub refused : IfErr given (refuses old)
    pub unchanged : OnErr given (new ≡ old)

  -- `enter`: the lane enters the span, unless the call is refused
  abbrev pub EntersSpan : Lane → Id → Promise S (Unit {0})
  EntersSpan lane id =
      AsksOfSpan (Enter lane id) (TakesStep (Enters lane id))
      (Refuses (λ r. RefusesEnter r lane) id)

  -- `record`: the span is open, and layers may be notified of the values, unless the call is
  -- refused
  abbrev pub RecordsValues : Lane → Id → Record → Promise S (Unit {0})
  RecordsValues lane id values =
      AsksOfSpan (RecordValues lane id values) (TakesStep (FindsOpen id))
      (Refuses RefusesUnlessOpen id)

  -- `follows_from`: the first span is open, and layers may be notified that it follows from the
  -- second, unless the call is refused
  abbrev pub FollowsSpan : Lane → Id → Id → Promise S (Unit {0})
  FollowsSpan lane id other =
      AsksOfSpan (Follow lane id other) (TakesStep (FindsOpen id)) (Refuses RefusesUnlessOpen id)

  -- `clone_span`: the span has a handle more, and no layer is notified, unless the call is refused
  abbrev pub ClonesSpan : Lane → Id → Promise S Id
  ClonesSpan lane id =
      AsksOfSpan (AddHandle lane id) (TakesStepAlone (Clones id)) (Refuses RefusesClone id)

  -- `exit`: the lane leaves the span, and where that isn't open, no layer is notified; the call is
  -- never refused
  pub record ExitsSpan (lane : Lane) (id : Id) (old new : Dispatch S) : Type 0 where
    pub rest : ChangesStack old new
    pub served : AnswersCall (Exit lane id) Done old new
    pub store : TakesStep (Exits lane id) old new
    pub gone : ¬ (IsOpen (registry_of old).store.spans (number_of id))
        → TakesStepAlone (Exits lane id) old new

  -- `drop_span`: a handle is taken. What is said of all that closes supposes that no span was
  -- closing.
  pub record DropsOneHandle (lane : Lane) (id : Id) (given : Result Bool TraceError)
      (old new : Dispatch S) : Type 0 where
    pub rest : ChangesStack old new
    pub served : AnswersDrop (DropHandle lane id) (yes_answer given) old new
    pub taken : IfOk given (TakesHandle id old new)
    pub store : IfOk given (λ closes. IsSettled old → DropsAll id old new closes)
    pub settled : IsSettled old → IsSettled new
    pub refused : IfErr given (Refuses RefusesRelease id old)
    pub unchanged : OnErr given (new ≡ old)

  -- `reload`: only the filter with this number answers otherwise, and nothing is cached any more
  pub record ReloadsFilter {A : Type 0} (n : ℕ) (w : Setting) (given : Result A TraceError)
      (old new : Dispatch S) : Type 0 where
    pub registry : SameRegistry old new
    pub served : AnswersCall (Reload n w) (done_answer given) old new
    pub reloaded : OnOk given (s.reloaded (stack_of old) n w (stack_of new))
    pub taken : OnOk given (TakesSetting n w old true)
    pub none : OnErr given (TakesSetting n w old false)
    pub rest : ChangesSetting n old new
    pub forgets : OnOk given (new ≡ forgetful (with_stack old (stack_of new)))
    pub refused : IfErr given (λ e. e ≡ NotSettable n)
    pub unchanged : OnErr given (new ≡ old)

  -- ---- what is promised of a call that is given as a value, and of a list of requests

  -- the call of a value's kind gave a result of which this is the answer, and kept that call's
  -- promise
  abbrev pub AsksCall : Call → Answer → Dispatch S → Dispatch S → Type 0
  AsksCall (OpenSpan lane attrs) = Gives span_answer (OpensSpan lane attrs)
  AsksCall (SendEvent lane e) = Gives event_answer (SendsEvent lane e)
  AsksCall (Enter lane id) = Gives done_answer (EntersSpan lane id)
  AsksCall (Exit lane id) = λ a old new. (a ≡ Done) × ExitsSpan lane id old new
  AsksCall (RecordValues lane id values) = Gives done_answer (RecordsValues lane id values)
  AsksCall (Follow lane id other) = Gives done_answer (FollowsSpan lane id other)
  AsksCall (AddHandle lane id) = Gives done_answer (ClonesSpan lane id)
  AsksCall (DropHandle lane id) = Gives yes_answer (DropsOneHandle lane id)
  AsksCall (Probe lane m) = Gives yes_answer (Probes lane m)
  AsksCall (AskCurrent lane) = λ a old new.
      (shown : Current) × (a ≡ current_answer shown) × Shows lane old shown × (new ≡ old)
  AsksCall (Reload n w) = Gives {A = Unit {0}} done_answer (ReloadsFilter n w)

  -- the call that is asked for, if any, keeps its promise; where none is, the answer is Dropped and
  -- nothing changes
  abbrev pub AsksFor : Option Call → Answer → Dispatch S → Dispatch S → Type 0
  AsksFor None a old new = (a ≡ Dropped) × (new ≡ old)
  AsksFor (Some call) a old new = AsksCall call a old new

  -- each request of a list, behind the answers so far, keeps the promise of the call that it asks
  -- for, one after another
  abbrev pub AsksEach : List Answer → List Request → List Answer → Dispatch S → Dispatch S → Type 0
  AsksEach past [] [] old new = new ≡ old
  AsksEach past (r ∷ rs) (a ∷ answers) old new =
      (next : Dispatch S) × AsksFor (call_of past r) a old next
      × AsksEach (past ++ (a ∷ [])) rs answers next new
  AsksEach past rs answers old new = ⊥

  -- a list of requests keeps the promise of each, and each registration that was valid stays so
  pub record AsksList (requests : List Request) (old new : Dispatch S)
      (answers : Vec Answer Global) : Type 0 where
    pub each : AsksEach [] requests answers.items old new
    pub registered : KeepsRegistered old new
