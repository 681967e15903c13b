-- Single calls in a row.
use Rattle.std.specs.Prelude.{◌≡◌, Bool, Option, Some, None}
use Rattle.span_core.specs.declared.span.Attributes.{Attributes}
use Rattle.span_core.specs.declared.span.Id.{Id}
use Rattle.span_core.specs.declared.span.Lane.{Lane}
use Rattle.span_dispatch.specs.declared.call.Call.{Call}
use Rattle.span_dispatch.specs.declared.call.Call.TheVariants.{DropHandle, OpenSpan}
use Rattle.span_dispatch.specs.Contract.{SubscriberOf}
use Rattle.span_dispatch.specs.Serve.{IsReady, IsServed, kept_by, stack_of}
use Rattle.span_dispatch.specs.declared.dispatch.Dispatch.{Dispatch}
use Rattle.span_dispatch.specs.declared.request.Answer.TheVariants.{Dropped, Made, Yes}
use Rattle.span_dispatch.specs.declared.request.Answer.{Answer}
use Rattle.span_registry.specs.Form.{Form}
use Rattle.span_examples.specs.Kinds.{IsReadyNow}

module _ {S : Type 0} (s : SubscriberOf S) where
  -- the stack is ready
  abbrev pub IsReadyStack : S → Type 0
  IsReadyStack x =
      (f : Form) × IsReady s.registry s.with_registry s.has_form s.stepped s.reloaded f x

  -- a dispatcher that was ready gave a call its one answer, notified its layers, and is ready for
  -- the next
  pub record AnswersReady (call : Call) (a : Answer) (old new : Dispatch S) : Type 0 where
    pub form : Form
    pub served : IsServed s.registry s.with_registry s.has_form s.stepped s.reloaded call form
        (kept_by old) (stack_of old) a (kept_by new) (stack_of new)
    pub next : IsReadyNow s new

  -- the span was opened, and then its handle was dropped, each as a dispatcher that is ready
  -- answers; or it wasn't opened
  abbrev pub OpensAndDrops : Lane → Attributes → Dispatch S → Dispatch S → Option Id → Type 0
  OpensAndDrops lane attrs old new (Some id) =
      IsReadyNow s old → (between : Dispatch S)
      × AnswersReady (OpenSpan lane attrs) (Made id) old between
      × ((closed : Bool) × AnswersReady (DropHandle lane id) (Yes closed) between new)
  OpensAndDrops lane attrs old new None =
      IsReadyNow s old → AnswersReady (OpenSpan lane attrs) Dropped old new
