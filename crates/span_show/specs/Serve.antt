-- How requests are served on a new registry, with a stream of lines or a timeline outside it.
use Rattle.std.specs.Prelude.{◌≡◌, ◌≤◌, ⊤, ℕ, List, [], Option, Some, true}
use Rattle.std.specs.Io.KnownBytes.{Appends}
use Rattle.std.specs.List.{AllByRecursion}
use Rattle.span_core.specs.declared.error.TraceError.TheVariants.{OutOfMemory}
use Rattle.span_core.specs.declared.filter.TheConstants.FilterId.{LIMIT}
use Rattle.span_dispatch.specs.Alone.{passed_at}
use Rattle.span_dispatch.specs.Cache.{no_callsite}
use Rattle.span_dispatch.specs.Contract.{SubscriberOf}
use Rattle.span_dispatch.specs.Serve.{IsReady, Served, flat, kept_by, stack_of}
use Rattle.span_dispatch.specs.declared.dispatch.Dispatch.{Dispatch}
use Rattle.span_dispatch.specs.declared.request.Answer.TheVariants.{Refused}
use Rattle.span_dispatch.specs.declared.request.Answer.{Answer}
use Rattle.span_dispatch.specs.declared.request.Request.{Request}
use Rattle.span_fmt.specs.Form.{FormSteps, Gives}
use Rattle.span_fmt.specs.Outlet.{lost_of, writer_of}
use Rattle.span_fmt.specs.Stream.{form_of, outlet_of}
use Rattle.span_fmt.specs.declared.stream.Stream.{Stream}
use Rattle.span_layers.specs.Observe.{observer_of}
use Rattle.span_layers.specs.declared.observe.Observer.{Observer}
use Rattle.span_stacks.specs.Honest.{IsHonestLayer}
use Rattle.span_stacks.specs.Layered.{inner_of, outer_of}
use Rattle.span_stacks.specs.declared.layered.Layered.{Layered}
use Rattle.span_layers.specs.Number.{filters_in}
use Rattle.span_store.specs.Store.{RegistryState, empty_store}
use Rattle.span_store.specs.declared.limits.TheConstants.Limits.{MAX}
use Rattle.span_registry.specs.Form.{Form}
use Rattle.span_registry.specs.Position.{Here, Outer, Position}
use Rattle.span_times.specs.Clock.{counts_on, latest_counted}
use Rattle.span_times.specs.Field.{kept_in}
use Rattle.span_times.specs.Serving.{KeepsServed, WithTimeline, fields_at, points_at, sites_at, timeline_in, timeline_position}
use Rattle.span_times.specs.Site.{sites_said}
use Rattle.span_times.specs.Timeline.{clock_of, fields_of, keeps_values, points_of, sites_of}
use Rattle.span_times.specs.declared.clock.Counted.{Counted}
use Rattle.span_times.specs.declared.kept.Taken.{Taken}

-- an honest layer, with no more filters than a registry has numbers for
pub record HasRoomOnNew {L : Type 0} (has_form : L → Form → Type 0) (layer : L) : Type 0 where
  pub form : Form
  pub has : has_form layer form
  pub honest : IsHonestLayer form
  pub room : filters_in form ≤ LIMIT

-- a stack is ready by some form
abbrev pub IsReadyStack : {S : Type 0} → SubscriberOf S → S → Type 0
IsReadyStack s x =
    (f : Form) × IsReady s.registry s.with_registry s.has_form s.stepped s.reloaded f x

-- a registry without spans, with limits as high as they go
pub record HasAllRoom (s : RegistryState) : Type 0 where
  pub empty : s.store ≡ empty_store
  pub limits : s.limits ≡ MAX

-- a registry, and outside it a stream of lines
abbrev pub WithStream : Type 0 → Type 0 → Type 0
WithStream F W = Layered (Observer (Stream F W)) RegistryState

-- where the stream stands
abbrev pub stream_position : Position
stream_position = Outer Here

module _ {F W : Type 0} where
  -- the stream in such a stack
  abbrev pub stream_in : WithStream F W → Stream F W
  stream_in x = observer_of (outer_of x)

  -- the stream in such a stack has this form and this writer, and has lost no line
  pub record HasStream (form : F) (writer : W) (x : WithStream F W) : Type 0 where
    pub has_form : form_of (stream_in x) ≡ form
    pub has_writer : writer_of (outlet_of (stream_in x)) ≡ writer
    pub none_lost : lost_of (outlet_of (stream_in x)) ≡ 0

-- a registry that has all room, and outside it a timeline that keeps values and has kept nothing,
-- whose clock counts from 0
pub record IsNewTimeline (x : WithTimeline RegistryState Counted) : Type 0 where
  pub registry : HasAllRoom (inner_of x)
  pub points : points_of (timeline_in x) ≡ []
  pub sites : sites_of (timeline_in x) ≡ []
  pub fields : fields_of (timeline_in x) ≡ []
  pub values : keeps_values (timeline_in x) ≡ true
  pub clock : latest_counted (clock_of (timeline_in x)) ≡ 0

-- an answer isn't a refusal for want of memory
abbrev pub FoundMemory : Answer → Type 0
FoundMemory (Refused OutOfMemory) = ⊥
FoundMemory a = ⊤

-- these are answers of a dispatcher that had cached no callsite, and none is a refusal of memory
pub record AnswersAll {S : Type 0} (answers : List Answer) (old : Dispatch S) : Type 0 where
  pub unasked : kept_by old ≡ Some no_callsite
  pub memory : AllByRecursion FoundMemory answers

-- the first stack was put in use and these requests were served on it, and it is the last one then;
-- memory was refused to none of them
pub record IsServedOn {S : Type 0} (s : SubscriberOf S) (requests : List Request) (first last : S)
    : Type 0 where
  pub answers : List Answer
  pub old : Dispatch S
  pub new : Dispatch S
  pub begun : s.registered first (stack_of old)
  pub answered : AnswersAll answers old
  pub served : Served s.registry s.with_registry s.has_form s.stepped s.reloaded s.hears s.acts_at
      requests answers old new
  pub ended : last ≡ stack_of new

-- A stream stood outermost while these requests were served, on a registry that had all room. It
-- lost no line: what its writer holds grew by exactly what the form gives of all that the stream
-- was notified of.
pub record IsStreamed {F W : Type 0} (gives : FormSteps F) (s : SubscriberOf (WithStream F W))
    (contents : W → Option (List ℕ)) (form : F) (requests : List Request) (writer after : W)
    : Type 0 where
  pub first : WithStream F W
  pub last : WithStream F W
  pub room : HasAllRoom (inner_of first)
  pub begun : HasStream form writer first
  pub on : IsServedOn s requests first last
  pub text : List ℕ
  pub given : Gives gives form (passed_at stream_position (flat on.served.made)) text
      (form_of (stream_in last))
  pub ended : HasStream (form_of (stream_in last)) after last
  pub grown : Appends (contents writer) (contents after) text

-- a new timeline stood outermost while these requests were served, and there is a point for each
-- thing that it was notified of, in order, with what their callsites are called and the fields that
-- they came with
pub record IsToldOf (s : SubscriberOf (WithTimeline RegistryState Counted))
    (requests : List Request) (taken : Taken) : Type 0 where
  pub answers : List Answer
  pub old : Dispatch (WithTimeline RegistryState Counted)
  pub new : Dispatch (WithTimeline RegistryState Counted)
  pub begun : IsNewTimeline (stack_of old)
  pub answered : AnswersAll answers old
  pub served : KeepsServed latest_counted counts_on s requests answers old new
  pub points : taken.points.items
      ≡ points_at true 0 served.kept.times (passed_at timeline_position (flat served.served.made))
  pub sites : sites_said taken.sites.items
      ≡ sites_at [] (passed_at timeline_position (flat served.served.made))
  pub fields : kept_in taken.fields.items
      ≡ fields_at true (passed_at timeline_position (flat served.served.made))
  pub above : taken.above.items ≡ []
