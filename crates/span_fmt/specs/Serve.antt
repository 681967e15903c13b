-- A list of requests that is served with a layer that writes outermost, under a level.
use Rattle.std.specs.Prelude.{◌≡◌, List, Result, IfErr, IfOk, OnErr, length}
use Rattle.std.specs.declared.alloc.Global.{Global}
use Rattle.std.specs.declared.vec.Vec.{Vec}
use Rattle.span_core.specs.declared.error.TraceError.TheVariants.{OutOfMemory}
use Rattle.span_core.specs.declared.error.TraceError.{TraceError}
use Rattle.span_core.specs.declared.level.LevelFilter.{LevelFilter}
use Rattle.span_dispatch.specs.Alone.{passed_at}
use Rattle.span_dispatch.specs.Contract.{StaysReadyWith, SubscriberOf}
use Rattle.span_dispatch.specs.Serve.{IsReadySomehow, Served, flat, stack_of}
use Rattle.span_dispatch.specs.declared.dispatch.Dispatch.{Dispatch}
use Rattle.span_dispatch.specs.declared.request.Answer.{Answer}
use Rattle.span_dispatch.specs.declared.request.Request.{Request}
use Rattle.span_stacks.specs.Filtered.{layer_of}
use Rattle.span_stacks.specs.Layered.{outer_of}
use Rattle.span_layers.specs.Observe.{observer_of}
use Rattle.span_stacks.specs.declared.filtered.Filtered.{Filtered}
use Rattle.span_stacks.specs.declared.layered.Layered.{Layered}
use Rattle.span_layers.specs.declared.observe.Observer.{Observer}
use Rattle.span_registry.specs.Position.{Heard, Here, Outer, Position, Under}
use Rattle.span_registry.specs.Reload.{KeepsRules}

-- a stack, and outside it an observer under a level
abbrev pub WithObserver : Type 0 → Type 0 → Type 0
WithObserver T S = Layered (Filtered (Observer T) LevelFilter) S

-- where the observer stands
abbrev pub observer_position : Position
observer_position = Outer (Under Here)

module _ {T S : Type 0} where
  -- the observer in such a stack
  abbrev pub observer_in : WithObserver T S → T
  observer_in x = observer_of (layer_of (outer_of x))

module _ {T S : Type 0} (writes : Heard → T → T → Type 0)
    (s : SubscriberOf (WithObserver T S)) where
  -- these requests were served with these answers, and the observer wrote what is due of all that
  -- its position was notified of
  pub record WritesServed (requests : List Request) (answers : List Answer)
      (old new : Dispatch (WithObserver T S)) : Type 0 where
    pub served : Served s.registry s.with_registry s.has_form s.stepped s.reloaded s.hears
        s.acts_at requests answers old new
    pub written : writes (passed_at observer_position (flat served.made))
        (observer_in (stack_of old)) (observer_in (stack_of new))

  -- requests that are served by a dispatcher that was ready have these answers, and the observer
  -- writes what is due of them
  abbrev pub ServesWritten : List Request → Dispatch (WithObserver T S)
      → Dispatch (WithObserver T S) → Vec Answer Global → Type 0
  ServesWritten requests old new answers =
      IsReadySomehow s.registry s.with_registry s.has_form s.stepped s.reloaded old
      → WritesServed requests answers.items old new

  -- what serving such a list promises, whether it is refused or not, beside that the stack may be
  -- called again
  pub record ServesOutermost (requests : List Request)
      (given : Result (Vec Answer Global) TraceError) (old new : Dispatch (WithObserver T S))
      : Type 0 where
    pub ready : StaysReadyWith s KeepsRules old new
    pub written : IfOk given (ServesWritten requests old new)
    pub length : IfOk given (λ answers. length answers.items ≡ length requests)
    pub memory : IfErr given (λ e. e ≡ OutOfMemory)
    pub unchanged : OnErr given (new ≡ old)
