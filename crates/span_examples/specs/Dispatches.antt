-- A recorder under a level, behind a dispatcher.
use Rattle.std.specs.Prelude.{◌≡◌, ⊤, false, List, [], ◌∷◌, ◌++◌, if◌then◌else◌}
use Rattle.std.specs.declared.alloc.Global.{Global}
use Rattle.std.specs.declared.vec.Vec.{Vec}
use Rattle.span_core.specs.Level.{passes_level}
use Rattle.span_core.specs.Metadata.{callsite_of, level_of}
use Rattle.span_core.specs.declared.level.LevelFilter.{LevelFilter}
use Rattle.span_core.specs.declared.metadata.Metadata.{Metadata}
use Rattle.span_core.specs.declared.span.Lane.{Lane}
use Rattle.span_dispatch.specs.Recorder.{RecorderState, Records, new_recorder}
use Rattle.span_dispatch.specs.Serve.{stack_of}
use Rattle.span_dispatch.specs.declared.dispatch.Dispatch.{Dispatch}
use Rattle.span_dispatch.specs.declared.recorded.Recorded.TheVariants.{Event, New}
use Rattle.span_dispatch.specs.declared.recorded.Recorded.{Recorded as KeptNotice}
use Rattle.span_dispatch.specs.declared.request.Answer.TheVariants.{Done, Made, Refused}
use Rattle.span_dispatch.specs.declared.request.Answer.{Answer}
use Rattle.span_stacks.specs.Filtered.{layer_of}
use Rattle.span_stacks.specs.Layered.{outer_of}
use Rattle.span_stacks.specs.declared.filtered.Filtered.{Filtered}
use Rattle.span_stacks.specs.declared.layered.Layered.{Layered}
use Rattle.span_store.specs.Store.{RegistryState}

-- a recorder under a level, on a registry
abbrev pub Recorded : Type 0
Recorded = Layered (Filtered RecorderState LevelFilter) RegistryState

-- the recorder of a dispatcher's stack
abbrev pub recorder_of : Dispatch Recorded → RecorderState
recorder_of d = layer_of (outer_of (stack_of d))

-- what a recorder keeps of a notice of something with these metadata: the notice, where the level
-- passes them
abbrev pub kept_if : LevelFilter → Metadata → KeptNotice → List KeptNotice
kept_if level m notice = if passes_level level (level_of m) then notice ∷ [] else []

-- a new span was made, or refused: nobody vetoed it
abbrev pub IsMadeOrRefused : Answer → Type 0
IsMadeOrRefused (Made id) = ⊤
IsMadeOrRefused (Refused e) = ⊤
IsMadeOrRefused other = ⊥

-- what a recorder keeps of a new span, by its answer: that it is new, where it was made and the
-- level passes it
abbrev pub kept_span : LevelFilter → Lane → Metadata → Answer → List KeptNotice
kept_span level lane m (Made id) = kept_if level m (New lane id)
kept_span level lane m other = []

-- what a recorder keeps of an event
abbrev pub kept_event : LevelFilter → Lane → Metadata → List KeptNotice
kept_event level lane m = kept_if level m (Event lane (callsite_of m))

-- what a recorder keeps of two new spans and an event behind them
abbrev pub kept_of : LevelFilter → Lane → Metadata → Metadata → Metadata → Answer → Answer
    → List KeptNotice
kept_of level lane outer inner event first second =
    kept_span level lane outer first
    ++ (kept_span level lane inner second ++ kept_event level lane event)

-- Two new spans and an event were served, with these answers. The recorder was notified of what the
-- level passes of them, in that order, and keeps this, unless it failed for want of memory.
pub record KeepsWhatPasses (level : LevelFilter) (lane : Lane) (outer inner event : Metadata)
    (done : Dispatch Recorded × Vec Answer Global) : Type 0 where
  pub first : Answer
  pub second : Answer
  pub answers : done.1.items ≡ first ∷ second ∷ Done ∷ []
  pub spans : IsMadeOrRefused first × IsMadeOrRefused second
  pub notified : Records new_recorder (recorder_of done.0)
      (kept_of level lane outer inner event first second)
  pub kept : (recorder_of done.0).failed ≡ false
      → (recorder_of done.0).notices ≡ kept_of level lane outer inner event first second
