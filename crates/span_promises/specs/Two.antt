-- Two recorders, each under a level of its own, on a registry.
use Rattle.std.specs.declared.alloc.Global.{Global}
use Rattle.std.specs.declared.vec.Vec.{Vec}
use Rattle.span_core.specs.declared.level.LevelFilter.{LevelFilter}
use Rattle.span_dispatch.specs.Recorder.{RecorderState}
use Rattle.span_dispatch.specs.Serve.{stack_of}
use Rattle.span_dispatch.specs.declared.dispatch.Dispatch.{Dispatch}
use Rattle.span_dispatch.specs.declared.request.Answer.{Answer}
use Rattle.span_stacks.specs.Filtered.{layer_of}
use Rattle.span_stacks.specs.Layered.{inner_of, outer_of}
use Rattle.span_stacks.specs.declared.filtered.Filtered.{Filtered}
use Rattle.span_stacks.specs.declared.layered.Layered.{Layered}
use Rattle.span_store.specs.Store.{RegistryState}

-- a recorder under a level
abbrev pub One : Type 0
One = Filtered RecorderState LevelFilter

-- two recorders, each under a level of its own, one outside the other, on a registry
abbrev pub Two : Type 0
Two = Layered (Layered One One) RegistryState

-- a dispatcher of two recorders, with what it answered
abbrev pub Answered : Type 0
Answered = Dispatch Two × Vec Answer Global

-- the outer of a dispatcher's two recorders
abbrev pub outer_recorder : Dispatch Two → RecorderState
outer_recorder d = layer_of (outer_of (outer_of (stack_of d)))

-- the inner of a dispatcher's two recorders
abbrev pub inner_recorder : Dispatch Two → RecorderState
inner_recorder d = layer_of (inner_of (outer_of (stack_of d)))
