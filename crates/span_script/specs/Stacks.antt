-- What serves the requests of a script: the stack that it names.
use Rattle.std.specs.Prelude.{◌≡◌, ◌≤◌, ◌+◌, ℕ, true, List, [], ◌∷◌, Option, None, Some, map, slice_get}
use Rattle.std.specs.declared.alloc.Global.{Global}
use Rattle.std.specs.declared.vec.Vec.{Vec}
use Rattle.span_core.specs.declared.filter.TheConstants.FilterId.{LIMIT}
use Rattle.span_core.specs.declared.level.LevelFilter.{LevelFilter}
use Rattle.span_core.specs.declared.level.TheConstants.LevelFilter.{INFO, TRACE, WARN}
use Rattle.span_dispatch.specs.Cache.{KeptCallsites, no_callsite}
use Rattle.span_dispatch.specs.Contract.{SubscriberOf}
use Rattle.span_dispatch.specs.Outcome.{OutcomeAt}
use Rattle.span_dispatch.specs.Recorder.{RecorderState, new_recorder}
use Rattle.span_dispatch.specs.Serve.{IsReady, Served, kept_at, kept_by, stack_of}
use Rattle.span_shared.specs.Worker.{WorkerState}
use Rattle.span_dispatch.specs.declared.dispatch.Dispatch.{Dispatch}
use Rattle.span_dispatch.specs.declared.recorded.Recorded.{Recorded}
use Rattle.span_dispatch.specs.declared.request.Answer.{Answer}
use Rattle.span_dispatch.specs.declared.request.Request.{Request}
use Rattle.span_filters.specs.Level.{level_answers}
use Rattle.span_filters.specs.Setting.{setting_answers}
use Rattle.span_stacks.specs.Filtered.{IsNumber, filter_of, id_of, layer_of}
use Rattle.span_stacks.specs.Layered.{inner_of, outer_of}
use Rattle.span_layers.specs.Number.{filters_in}
use Rattle.span_layers.specs.Observe.{open_answers}
use Rattle.span_stacks.specs.declared.filtered.Filtered.{Filtered as FilteredLayer}
use Rattle.span_stacks.specs.declared.layered.Layered.{Layered}
use Rattle.span_store.specs.Store.{RegistryState, new_registry}
use Rattle.span_store.specs.declared.limits.Limits.{Limits}
use Rattle.span_registry.specs.Form.{Absent, Terminal, Base, Filtered, Form, InPair, Leaf, OnSubscriber, Parts}
use Rattle.span_registry.specs.Position.{Here, Inner, Outer, Position, Under}
use Rattle.span_script.specs.Mute.{mute_answers}
use Rattle.span_script.specs.Runs.{RunsBySettings}
use Rattle.span_script.specs.declared.mute.Mute.{Mute}
use Rattle.span_script.specs.declared.mute_veto.MuteVeto.{MuteVeto}
use Rattle.span_script.specs.declared.stack_name.StackName.{StackName}
use Rattle.span_script.specs.declared.stack_name.StackName.TheVariants.{Absent as AbsentStack, Directives, Nested, Pair, Plain, Veto}
use Rattle.span_targets.specs.declared.setting.Setting.{Setting}
use Rattle.span_targets.specs.declared.setting.Setting.TheVariants.{Level}

-- the form of a recorder
abbrev pub leaf : Form
leaf = Leaf true open_answers

-- the form of a stack. Plain: a recorder on the registry. Pair: `a`, which every level passes, and
-- outside it `b`, which info and what is less verbose pass. Nested: `base`, and outside it `deep`,
-- which those levels pass, where the event isn't muted. Veto: `base`, outside it `warn`, which
-- warnings and errors pass, and outside these two leaves that veto, one muted events and the outer
-- one what is more verbose than info. Absent: an absent layer, and outside it `base`. Directives:
-- `base`, and outside it `chosen`, which every level passes until its filter takes another setting
abbrev pub form_of : StackName → Form
form_of Plain = Parts OnSubscriber leaf (Terminal Base)
form_of Pair =
    Parts OnSubscriber (Parts InPair (Filtered (Some 0) (level_answers INFO) leaf)
    (Filtered (Some 1) (level_answers TRACE) leaf)) (Terminal Base)
form_of Nested =
    Parts OnSubscriber (Filtered (Some 0) mute_answers
    (Filtered (Some 1) (level_answers INFO) leaf))
    (Parts OnSubscriber leaf (Terminal Base))
form_of Veto =
    Parts OnSubscriber (Leaf true (level_answers INFO))
    (Parts OnSubscriber (Leaf true mute_answers)
    (Parts OnSubscriber (Filtered (Some 0) (level_answers WARN) leaf)
    (Parts OnSubscriber leaf (Terminal Base))))
form_of AbsentStack = Parts OnSubscriber leaf (Parts OnSubscriber (Terminal Absent) (Terminal Base))
form_of Directives =
    Parts OnSubscriber (Filtered (Some 0) (setting_answers (Level TRACE)) leaf)
    (Parts OnSubscriber leaf (Terminal Base))

-- where a stack's recorders stand, innermost first
abbrev pub places_of : StackName → List Position
places_of Plain = Outer Here ∷ []
places_of Pair = Outer (Inner (Under Here)) ∷ Outer (Outer (Under Here)) ∷ []
places_of Nested = Inner (Outer Here) ∷ Outer (Under (Under Here)) ∷ []
places_of Veto = Inner (Inner (Inner (Outer Here))) ∷ Inner (Inner (Outer (Under Here))) ∷ []
places_of AbsentStack = Outer Here ∷ []
places_of Directives = Inner (Outer Here) ∷ Outer (Under Here) ∷ []

-- how many filters it has
abbrev pub filters_of : StackName → ℕ
filters_of Plain = 0
filters_of Pair = 2
filters_of Nested = 2
filters_of Veto = 1
filters_of AbsentStack = 0
filters_of Directives = 1

-- a registry may have these limits: each is at least 1
pub record ArePositive (limits : Limits) : Type 0 where
  pub places : 1 ≤ limits.places
  pub generations : 1 ≤ limits.generations
  pub count : 1 ≤ limits.count

-- its registry before the first request: it has these limits, is empty, and handed out the stack's
-- filters
abbrev pub start_of : Limits → StackName → RegistryState
start_of limits stack = record (new_registry limits) { filters = filters_of stack }

-- the stack answers these requests so, from its first registry on and with nothing kept at first,
-- and its recorders, innermost first, keep these notices
abbrev pub Serves : Limits → StackName → List Request → List Answer → List (List Recorded) → Type 0
Serves limits stack requests answers kept =
    (made : List (List OutcomeAt)) × (memory : KeptCallsites) × (after : RegistryState)
    × RunsBySettings (form_of stack) requests answers made (Some no_callsite)
    (start_of limits stack) memory after × (kept ≡ map (kept_at made) (places_of stack))

-- there is room on the stack for all of the layer's filters
pub record HasRoom {L S : Type 0} (registry : S → RegistryState) (has_form : L → Form → Type 0)
    (layer : L) (stack : S) : Type 0 where
  pub form : Form
  pub has : has_form layer form
  pub room : (registry stack).filters + filters_in form ≤ LIMIT

-- Below: the stacks themselves, before the first request, on a registry with these limits.

-- a new recorder on the first registry
pub record BeginsPlain (limits : Limits) (x : Layered RecorderState RegistryState) : Type 0 where
  pub base : outer_of x ≡ new_recorder
  pub registry : inner_of x ≡ start_of limits Plain

-- a new recorder under this filter, which has this number
pub record BeginsUnder {F : Type 0} (n : ℕ) (own : F) (x : FilteredLayer RecorderState F) : Type 0
  where
    pub number : IsNumber (id_of x) (Some n)
    pub filter : filter_of x ≡ own
    pub recorder : layer_of x ≡ new_recorder

-- two new recorders, each under its level, on the first registry
pub record BeginsPair (limits : Limits)
    (x : Layered (Layered (FilteredLayer RecorderState LevelFilter)
    (FilteredLayer RecorderState LevelFilter)) RegistryState) : Type 0 where
  pub a : BeginsUnder 1 TRACE (inner_of (outer_of x))
  pub b : BeginsUnder 0 INFO (outer_of (outer_of x))
  pub registry : inner_of x ≡ start_of limits Pair

-- a new recorder on the first registry, and outside it one under a level, and that under the filter
-- of muted events
pub record BeginsNested (limits : Limits)
    (x : Layered (FilteredLayer (FilteredLayer RecorderState LevelFilter) Mute)
    (Layered RecorderState RegistryState)) : Type 0 where
  pub base : outer_of (inner_of x) ≡ new_recorder
  pub number : IsNumber (id_of (outer_of x)) (Some 0)
  pub deep : BeginsUnder 1 INFO (layer_of (outer_of x))
  pub registry : inner_of (inner_of x) ≡ start_of limits Nested

-- a new recorder on the first registry, and outside it one under warnings
pub record BeginsWarned (limits : Limits)
    (x : Layered (FilteredLayer RecorderState LevelFilter)
    (Layered RecorderState RegistryState)) : Type 0 where
  pub base : outer_of (inner_of x) ≡ new_recorder
  pub warn : BeginsUnder 0 WARN (outer_of x)
  pub registry : inner_of (inner_of x) ≡ start_of limits Veto

-- outside these a layer that vetoes muted events, and outside that one which vetoes what is more
-- verbose than info
pub record BeginsVeto (limits : Limits)
    (x : Layered LevelFilter
    (Layered MuteVeto (Layered (FilteredLayer RecorderState LevelFilter)
    (Layered RecorderState RegistryState)))) : Type 0 where
  pub level : outer_of x ≡ INFO
  pub below : BeginsWarned limits (inner_of (inner_of x))

-- an absent layer on the first registry, and outside it a new recorder
pub record BeginsAbsent (limits : Limits)
    (x : Layered RecorderState (Layered (Option RecorderState) RegistryState)) : Type 0 where
  pub base : outer_of x ≡ new_recorder
  pub absent : outer_of (inner_of x) ≡ None
  pub registry : inner_of (inner_of x) ≡ start_of limits AbsentStack

-- a new recorder on the first registry, and outside it one under a filter by settings, which begins
-- with the level trace
pub record BeginsDirectives (limits : Limits)
    (x : Layered (FilteredLayer RecorderState Setting)
    (Layered RecorderState RegistryState)) : Type 0 where
  pub base : outer_of (inner_of x) ≡ new_recorder
  pub chosen : BeginsUnder 0 (Level TRACE) (outer_of x)
  pub registry : inner_of (inner_of x) ≡ start_of limits Directives

-- a stack was put in use, with nothing kept yet, and then, if it was ready, it served these
-- requests exactly so
pub record ServesInUse {S : Type 0} (s : SubscriberOf S) (requests : List Request) (x : S)
    (given : Vec Answer Global × Dispatch S) : Type 0 where
  pub begun : Dispatch S
  pub in_use : s.registered x (stack_of begun)
  pub same : s.registry (stack_of begun) ≡ s.registry x
  pub kept : kept_by begun ≡ Some no_callsite
  pub served : (f : Form) × IsReady s.registry s.with_registry s.has_form s.stepped s.reloaded f x
      → Served s.registry s.with_registry s.has_form s.stepped s.reloaded s.hears s.acts_at
      requests given.0.items begun given.1

-- each of these workers was called so often at most
abbrev pub AreCalled : ℕ → List WorkerState → Type 0
AreCalled most workers = (i : ℕ) (w : WorkerState) → slice_get workers i ≡ Some w → w.calls ≤ most
