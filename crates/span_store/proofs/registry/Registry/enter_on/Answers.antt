use Rattle.std.proofs.Common.{sym, ap, ◌∙◌}
use Rattle.std.specs.FinSet.{len as set_len}
use Rattle.span_core.specs.Span.{number_of}
use Rattle.span_store.specs.private.State.{state_of}
use Rattle.span_store.specs.Step.{entered}
use Rattle.span_store.specs.Store.{RegistryState}
use Rattle.span_store.specs.private.StoreRepr.{KeptStacks}
use Rattle.span_store.proofs.Begins.{has_some}
use Rattle.span_store.proofs.States.{on_ok_map}
use Rattle.span_store.proofs.registry.Registry.enter_on.Goals as goal

pub invariant_of-self : goal.invariant_of-self
invariant_of-self c =
    let u = c.is_open.ensures.0 c.if-not-is_open.false in
    record {
      kept = c.self.invariant.kept;
      begins = λ none. absurd (has_some _
          _ (c.is_sound.ensures.issued (number_of c.args.id) (u.0, u.1)) (ap (λ (s : RegistryState). set_len s.store.issued) (sym c.self.view_is) ∙ none));
    }

pub returns-clause-entered : goal.returns-clause-entered
returns-clause-entered c =
    let before : RegistryState = state_of c.self.inside in
    on_ok_map c.push.result c.push.ensures.entered (λ put. record {
      is_open = c.is_open.ensures.0 c.if-not-is_open.false;
      state =
          ap (λ (t : KeptStacks). record before { store = record before.store { stacks = t.stacks }; reserved = record before.reserved { entries = t.rooms } })
          put
          ∙ ap (λ (s : RegistryState). record s { store = entered s.store c.args.lane.0 (number_of c.args.id) }) c.self.view_is;
    })
