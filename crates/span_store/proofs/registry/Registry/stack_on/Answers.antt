use Rattle.std.proofs.Common.{◌∙◌, ap}
use Rattle.span_store.specs.Store.{RegistryState, stack_on}
use Rattle.span_store.proofs.registry.Registry.stack_on.Goals as goal

pub returns : goal.returns
returns c = c.get.ensures ∙ ap (λ (s : RegistryState). stack_on s.store.stacks c.args.lane.0) c.self.view_is
