-- A layer that looks up each span whose close it is notified of, under a level on a registry.
use Rattle.std.specs.Prelude.{◌≡◌, ◌+◌, ◌-◌, ◌^◌, ℕ, if◌then◌else◌, min}
use Rattle.std.specs.declared.alloc.Global.{Global}
use Rattle.std.specs.declared.vec.Vec.{Vec}
use Rattle.span_core.specs.Span.{number_of}
use Rattle.span_core.specs.declared.level.LevelFilter.{LevelFilter}
use Rattle.span_dispatch.specs.Serve.{stack_of}
use Rattle.span_dispatch.specs.declared.dispatch.Dispatch.{Dispatch}
use Rattle.span_dispatch.specs.declared.request.Answer.{Answer}
use Rattle.span_stacks.specs.Filtered.{layer_of}
use Rattle.span_stacks.specs.Layered.{outer_of}
use Rattle.span_layers.specs.Observe.{observer_of}
use Rattle.span_stacks.specs.declared.filtered.Filtered.{Filtered}
use Rattle.span_stacks.specs.declared.layered.Layered.{Layered}
use Rattle.span_layers.specs.declared.observe.Observer.{Observer}
use Rattle.span_promises.specs.declared.watch.Watcher.{Watcher}
use Rattle.span_store.specs.Store.{RegistryState}
use Rattle.span_registry.specs.Behaviour.{Notice, OnClose}
use Rattle.span_registry.specs.View.{View, is_shown}

-- how many spans a watcher didn't find when it was notified of their close
abbrev pub lost_by : Watcher → ℕ
lost_by x = x.lost

-- a watcher after a notice: it counts a close one more, as far as it can count, where its context
-- doesn't show the span
abbrev pub looked_up : Notice → View → Watcher → Watcher
looked_up (OnClose id) v x =
    if is_shown v.spans (number_of id) then x else record x { lost = min (x.lost + 1) (2 ^ 64 - 1) }
looked_up other v x = x

-- a watcher under a level, on a registry
abbrev pub Watched : Type 0
Watched = Layered (Filtered (Observer Watcher) LevelFilter) RegistryState

-- the watcher of a dispatcher's stack
abbrev pub watcher_of : Dispatch Watched → Watcher
watcher_of d = observer_of (layer_of (outer_of (stack_of d)))

-- the watcher of a dispatcher's stack found each span whose close it was notified of
abbrev pub LosesNone : Dispatch Watched × Vec Answer Global → Type 0
LosesNone done = lost_by (watcher_of done.0) ≡ 0
