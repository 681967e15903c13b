-- Where no span was closing, none is.
use Rattle.std.proofs.Common.{◌≡◌, Bool, Option, Some, None, MatchOption, Result, Ok, Err, IfOk, OnErr, OnOk, ap, subst, sym}
use Rattle.span_core.specs.declared.error.TraceError.{TraceError}
use Rattle.span_core.specs.declared.span.Attributes.{Attributes}
use Rattle.span_core.specs.declared.span.Id.{Id}
use Rattle.span_core.specs.declared.span.Lane.{Lane}
use Rattle.span_dispatch.specs.Call.{DropsSpan, OpensFor}
use Rattle.span_dispatch.specs.declared.dispatch.Dispatch.{Dispatch}
use Rattle.span_macros.proofs.Steps.{off_stack}
use Rattle.span_macros.specs.Span.{LeavesStack}
use Rattle.span_store.specs.Closes.{HasNoClosing}
use Rattle.span_store.specs.Step.{Enters, Exits}
use Rattle.span_store.specs.Store.{RegistryState}
use Rattle.span_registry.proofs.CallerLemmas.{settled_aside, settled_entered, settled_exited, settled_opened}
use Rattle.span_registry.specs.Subscriber.{AndHooks}

module _ {S : Type 0} (registry : S → RegistryState) where
  -- no span of a stack is closing
  abbrev pub NoneCloses : S → Type 0
  NoneCloses x = HasNoClosing (registry x).store.spans

  settled_still : (x y : S) → y ≡ x → NoneCloses x → NoneCloses y
  settled_still x y same h = subst NoneCloses (sym same) h

  -- after a new span
  pub settled_new : (lane : Lane) (attrs : Attributes) (x y : S) (given : Result (Option Id) TraceError)
      → IfOk given (λ made. MatchOption made (y ≡ x) (λ id. AndHooks registry (OpensFor lane attrs id) x y)) → OnErr given (y ≡ x) → NoneCloses x → NoneCloses y
  settled_new lane attrs x y (Ok (Some id)) opened same h = settled_aside opened.hooks (settled_opened lane _ id (registry x) opened.stepped opened.taken.1 h)
  settled_new lane attrs x y (Ok None) opened same h = settled_still x y opened h
  settled_new lane attrs x y (Err e) opened same h = settled_still x y same h

  -- after a span was entered, or that was refused
  pub settled_within : {A : Type 0} (lane : Lane) (id : Id) (old new : Dispatch S) (given : Result A TraceError)
      → OnOk given (AndHooks registry (Enters lane id) old.stack new.stack) → OnErr given (new ≡ old) → NoneCloses old.stack → NoneCloses new.stack
  settled_within lane id old new (Ok a) entered same h =
      settled_aside entered.hooks (settled_entered lane id (registry old.stack) entered.stepped entered.taken h)
  settled_within lane id old new (Err e) entered same h = settled_still old.stack new.stack (ap (λ (d : Dispatch S). d.stack) same) h

  -- after it was left
  pub settled_left : (lane : Lane) (id : Id) (x y : S) → AndHooks registry (Exits lane id) x y → NoneCloses x → NoneCloses y
  settled_left lane id x y left h = settled_aside left.hooks (settled_exited lane id (registry x) left.stepped left.taken h)

  -- so a span is left and a handle of it taken as one step
  pub left_settled : (lane : Lane) (id : Id) (x y z : S) (given : Result Bool TraceError)
      → AndHooks registry (Exits lane id) x y → IfOk given (λ closes. NoneCloses y → AndHooks registry (DropsSpan id closes) y z)
      → IfOk given (λ closes. NoneCloses x → AndHooks registry (LeavesStack lane id closes) x z)
  left_settled lane id x y z (Ok closes) left dropped = λ h. off_stack registry lane id closes x y z left (dropped (settled_left lane id x y left h))
  left_settled lane id x y z (Err e) left dropped = tt
