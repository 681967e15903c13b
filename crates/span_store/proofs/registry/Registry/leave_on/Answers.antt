use Rattle.std.proofs.Common.{ap, ◌∙◌}
use Rattle.span_core.specs.Span.{number_of}
use Rattle.span_store.specs.private.State.{state_of}
use Rattle.span_store.specs.Step.{exited}
use Rattle.span_store.specs.Store.{RegistryState}
use Rattle.span_store.specs.private.StoreRepr.{KeptStacks}
use Rattle.span_store.proofs.Begins.{leaves_none}
use Rattle.span_store.proofs.registry.Registry.leave_on.Goals as goal

pub invariant_of-self : goal.invariant_of-self
invariant_of-self c = record {
  kept = c.self.invariant.kept;
  begins = λ none. ap (λ (t : KeptStacks). t.stacks) c.pop.ensures
      ∙ leaves_none (c.self.inside.stacks).stacks c.args.lane.0 (number_of c.args.id) (c.self.invariant.begins none);
}

pub returns : goal.returns
returns c =
    let before : RegistryState = state_of c.self.inside in
    ap (λ (t : KeptStacks). record before { store = record before.store { stacks = t.stacks }; reserved = record before.reserved { entries = t.rooms } })
    c.pop.ensures
    ∙ ap (λ (s : RegistryState). record s { store = exited s.store c.args.lane.0 (number_of c.args.id) }) c.self.view_is
