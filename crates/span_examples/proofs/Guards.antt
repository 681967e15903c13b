-- Guards: a span that was entered is left again.
use Rattle.std.proofs.Common.{Bool, Err, IfOk, Ok, Result, subst, sym, ◌∙◌}
use Rattle.span_core.specs.declared.error.TraceError.{TraceError}
use Rattle.span_core.specs.declared.event.Event.{Event}
use Rattle.span_core.specs.declared.span.Id.{Id}
use Rattle.span_core.specs.declared.span.Lane.{Lane}
use Rattle.span_dispatch.specs.Contract.{AnswersCall, ExitsSpan, SendsEvent, SubscriberOf, TakesStep, registry_of}
use Rattle.span_dispatch.specs.declared.call.Call.TheVariants.{Enter}
use Rattle.span_dispatch.specs.Serve.{stack_of}
use Rattle.span_dispatch.specs.declared.request.Answer.TheVariants.{Done}
use Rattle.span_dispatch.specs.declared.dispatch.Dispatch.{Dispatch}
use Rattle.span_store.specs.Step.{Enters, Exits}
use Rattle.span_store.specs.Store.{RegistryState}
use Rattle.span_registry.specs.Hooks.{Stays}
use Rattle.span_registry.specs.Subscriber.{SameButExtensions}
use Rattle.span_registry.proofs.CallerLemmas.{stacks_restored_after}
use Rattle.span_examples.specs.Guard.{IsLeft, IsOver, KeepsSpan, KeepsStacks, SendsBy, SendsWithin, dispatch_of, lane_of}
use Rattle.span_examples.specs.declared.guard.Entered.{Entered}

module _ {S : Type 0} (s : SubscriberOf S) (lane : Lane) (id : Id) (old first : Dispatch S) (g h : Entered S) (new : Dispatch S) where
  -- a lane has entered a span, and then a guard was made of that
  entered_by : TakesStep s (Enters lane id) old first → IsOver lane id first g → TakesStep s (Enters lane id) old (dispatch_of g)
  entered_by e o = subst (TakesStep s (Enters lane id) old) (sym o.dispatch_is) e

  -- where hooks alone ran, only extensions may differ
  hooks_ran : TakesStep s Stays (dispatch_of g) (dispatch_of h) → SameButExtensions (registry_of s (dispatch_of g)) (registry_of s (dispatch_of h))
  hooks_ran k = subst (λ (v : RegistryState). SameButExtensions v (registry_of s (dispatch_of h))) k.taken k.hooks

  -- a guard leaves the span that it was made of
  leaves_its_span : IsOver lane id first g → KeepsSpan s g h → IsLeft s h new → ExitsSpan s lane id (dispatch_of h) new
  leaves_its_span o k l =
      subst (λ (n : Lane). ExitsSpan s n id (dispatch_of h) new) (k.lane ∙ o.lane_is)
      (subst (λ (x : Id). ExitsSpan s (lane_of h) x (dispatch_of h) new) (k.span ∙ o.span_is) l)

  -- and then each lane has the stack that it had
  pub keeps_stacks : TakesStep s (Enters lane id) old first → IsOver lane id first g → KeepsSpan s g h → IsLeft s h new → KeepsStacks s old new
  keeps_stacks e o k l =
      stacks_restored_after s.registry (stack_of old)
      (stack_of (dispatch_of g)) (stack_of (dispatch_of h)) (stack_of new) lane id (entered_by e o) (hooks_ran k.hooks) (leaves_its_span o k l).store

  -- an event that was served by the guard was sent from within the span
  pub sends_within : (e : Event) (r : Result Bool TraceError) → TakesStep s (Enters lane id) old first → AnswersCall s (Enter lane id) Done old first
      → IsOver lane id first g → KeepsSpan s g h → SendsBy s e r g h → IsLeft s h new → IfOk r (SendsWithin s lane id e old new)
  sends_within e (Ok sent) i j o k t l = record {
    first = dispatch_of g;
    last = dispatch_of h;
    enters = entered_by i o;
    entered = subst (AnswersCall s (Enter lane id) Done old) (sym o.dispatch_is) j;
    serves = subst (λ (n : Lane). SendsEvent s n e (Ok sent) (dispatch_of g) (dispatch_of h)) o.lane_is t;
    leaves = leaves_its_span o k l;
  }
  sends_within e (Err error) i j o k t l = tt
