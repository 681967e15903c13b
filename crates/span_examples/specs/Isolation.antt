-- A recorder under a level in two stacks: on a registry alone, and beside another recorder.
use Rattle.std.specs.Prelude.{◌≡◌, false, List, []}
use Rattle.std.specs.declared.alloc.Global.{Global}
use Rattle.std.specs.declared.vec.Vec.{Vec}
use Rattle.span_core.specs.declared.level.LevelFilter.{LevelFilter}
use Rattle.span_dispatch.specs.Recorder.{RecorderState, Records, new_recorder}
use Rattle.span_dispatch.specs.Serve.{IsReady, Served, stack_of}
use Rattle.span_dispatch.specs.declared.dispatch.Dispatch.{Dispatch}
use Rattle.span_dispatch.specs.declared.recorded.Recorded.{Recorded as KeptNotice}
use Rattle.span_dispatch.specs.declared.request.Answer.{Answer}
use Rattle.span_dispatch.specs.declared.request.Request.{Request}
use Rattle.span_stacks.specs.Filtered.{filter_of, layer_of}
use Rattle.span_stacks.specs.Layered.{inner_of, outer_of}
use Rattle.span_stacks.specs.declared.filtered.Filtered.{Filtered}
use Rattle.span_stacks.specs.declared.layered.Layered.{Layered}
use Rattle.span_store.specs.Store.{RegistryState}
use Rattle.span_registry.specs.Conducts.{ActsAt}
use Rattle.span_registry.specs.Form.{Form}
use Rattle.span_registry.specs.Hooks.{StackSteps}
use Rattle.span_registry.specs.Reload.{ReloadSteps}
use Rattle.span_registry.specs.Position.{HearSteps}
use Rattle.span_registry.specs.Question.{single}
use Rattle.span_promises.specs.MadeCall.{MadeCall, made_calls}
use Rattle.span_examples.specs.Dispatches.{Recorded, recorder_of}

-- the second stack: another recorder under a level of its own stands outside the first
abbrev pub Beside : Type 0
Beside = Layered (Filtered RecorderState LevelFilter) Recorded

-- the recorder in it that the first stack has too
abbrev pub inner_recorder_of : Dispatch Beside → RecorderState
inner_recorder_of d = layer_of (outer_of (inner_of (stack_of d)))

-- a dispatcher with what it answered
abbrev pub WithAnswers : Type 0 → Type 0
WithAnswers S = Dispatch S × Vec Answer Global

-- the made requests of a list that was answered so, as far as they concern the filter that was
-- attached first
abbrev pub made_first : List Request → List Answer → List MadeCall
made_first requests answers = made_calls (single 0) [] requests answers

-- a recorder that was notified of nothing yet, under this level
pub record IsNewUnder (level : LevelFilter) (x : Filtered RecorderState LevelFilter) : Type 0 where
  pub own : filter_of x ≡ level
  pub inner : layer_of x ≡ new_recorder

-- a stack was put in use, and nothing else about its registry changed; if it was ready, it served
-- these requests from then on, and gave these answers
pub record ServesFirst {S : Type 0} (registry : S → RegistryState)
    (with_registry : S → RegistryState → S) (has_form : S → Form → Type 0) (stepped : StackSteps S)
    (reloaded : ReloadSteps S) (hears : HearSteps S) (acts_at : ActsAt S)
    (registered : S → S → Type 0) (requests : List Request) (x : S) (done : WithAnswers S) : Type
    0 where
  pub first : Dispatch S
  pub in_use : registered x (stack_of first)
  pub same : registry (stack_of first) ≡ registry x
  pub served : (f : Form) × IsReady registry with_registry has_form stepped reloaded f x
      → Served registry with_registry has_form stepped reloaded hears acts_at requests done.1.items
      first done.0

-- two new recorders were notified of the same, in the same order; where neither failed for want of
-- memory, they keep the same
pub record WentThroughTheSame (r q : RecorderState) : Type 0 where
  pub notices : List KeptNotice
  pub first : Records new_recorder r notices
  pub second : Records new_recorder q notices
  pub kept : r.failed ≡ false → q.failed ≡ false → r.notices ≡ q.notices

-- how a dispatcher serves a list with these answers, on its way to another
abbrev pub Serving : Type 0 → Type 1
Serving S = List Answer → Dispatch S → Dispatch S → Type 0

-- Two dispatchers began with new recorders under these levels, and served. Where the same requests
-- were made and answered the same, as they are where all answers are the same, the recorder that
-- stands alone and the one that stands beside another were notified of the same.
pub record KeepTheSame (level other : LevelFilter) (requests : List Request)
    (ServesAlone : Serving Recorded) (ServesBeside : Serving Beside)
    (both : WithAnswers Recorded × WithAnswers Beside) : Type 0 where
  pub alone : Dispatch Recorded
  pub beside : Dispatch Beside
  pub alone_new : IsNewUnder level (outer_of (stack_of alone))
  pub beside_new : IsNewUnder level (outer_of (inner_of (stack_of beside)))
  pub other_new : IsNewUnder other (outer_of (stack_of beside))
  pub alone_served : ServesAlone both.0.1.items alone both.0.0
  pub beside_served : ServesBeside both.1.1.items beside both.1.0
  pub same : made_first requests both.0.1.items ≡ made_first requests both.1.1.items
      → WentThroughTheSame (recorder_of both.0.0) (inner_recorder_of both.1.0)
  pub same_answers : both.0.1.items ≡ both.1.1.items
      → WentThroughTheSame (recorder_of both.0.0) (inner_recorder_of both.1.0)
