-- How a dispatcher stays ready after a call.
use Rattle.std.proofs.Common.{◌≡◌, ℕ, sym, ap, subst}
use Rattle.span_dispatch.proofs.Goes.{by_keeping, by_level, ready_again, same_but, stays_same}
use Rattle.span_dispatch.specs.Contract.{CurrentBy, SameStack, StaysReady, StaysReadyWith, StaysUpToDate, SubscriberOf}
use Rattle.span_dispatch.specs.Serve.{IsReady, stack_of}
use Rattle.span_dispatch.specs.declared.dispatch.Dispatch.{Dispatch}
use Rattle.span_registry.specs.KeptForm.{KeepsForm}
use Rattle.span_registry.specs.laws.Form.{kept_form}
use Rattle.span_registry.specs.Form.{Form}
use Rattle.span_registry.specs.Reload.{KeepsRules, ReloadedForm}

module _ {S : Type 0} (s : SubscriberOf S) where
  abbrev IsReadyStack : Form → S → Type 0
  IsReadyStack f x = IsReady s.registry s.with_registry s.has_form s.stepped s.reloaded f x

  -- it is ready again, by a form that keeps what the old one had, on as many filters
  abbrev IsReadyAgain : Form → S → S → Type 0
  IsReadyAgain f x y = (g : Form) × IsReadyStack g y × KeepsForm f g × ((s.registry y).filters ≡ (s.registry x).filters)

module _ {S : Type 0} {s : SubscriberOf S} where
  -- a dispatcher whose stack is ready again, and which keeps what it may
  pub stays_ready : (old new : Dispatch S) → ((f : Form) → IsReadyStack s f (stack_of old) → CurrentBy s f old → IsReadyAgain s f (stack_of old) (stack_of new))
      → StaysUpToDate s old new → StaysReady s old new
  stays_ready old new goes current = record {
    again =
        λ f k. ready_again s.registry s.with_registry s.has_form s.stepped s.reloaded f old new (goes f k.stack k.kept) (current f k.stack.honest.has k.kept);
  }

  -- one whose stack is the same
  pub same_ready : (old new : Dispatch S) → SameStack old new → StaysUpToDate s old new → StaysReady s old new
  same_ready old new e current =
      stays_ready old new (λ f k u. (f, subst (λ x. IsReadyStack s f x) (sym e) k, kept_form f, ap (λ x. (s.registry x).filters) e)) current

  -- one that is the same
  pub unchanged_ready : (old new : Dispatch S) → new ≡ old → StaysReady s old new
  unchanged_ready old new e = record { again = λ f k. stays_same s.registry s.with_registry s.has_form s.stepped s.reloaded f old new e k }

  -- one of which no level was set
  pub unset_ready : (n : ℕ) (old new : Dispatch S) → new ≡ old → StaysReadyWith s (ReloadedForm n) old new
  unset_ready n old new e = record { again = λ f k. same_but s.registry s.with_registry s.has_form s.stepped s.reloaded f n old new e k }

  -- whatever is kept, the rules are
  pub ready_by_rules : (old new : Dispatch S) → StaysReady s old new → StaysReadyWith s KeepsRules old new
  ready_by_rules old new h = record { again = λ f k. by_keeping s.registry s.with_registry s.has_form s.stepped s.reloaded f new (h.again f k) }

  pub level_by_rules : (n : ℕ) (old new : Dispatch S) → StaysReadyWith s (ReloadedForm n) old new → StaysReadyWith s KeepsRules old new
  level_by_rules n old new h = record { again = λ f k. by_level s.registry s.with_registry s.has_form s.stepped s.reloaded n f new (h.again f k) }

  -- the same from where another is
  pub unset_from : (n : ℕ) (old between new : Dispatch S)
      → between ≡ old → StaysReadyWith s (ReloadedForm n) between new → StaysReadyWith s (ReloadedForm n) old new
  unset_from n old between new e h = subst (λ d. StaysReadyWith s (ReloadedForm n) d new) e h
