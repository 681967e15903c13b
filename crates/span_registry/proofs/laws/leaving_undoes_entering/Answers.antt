use Rattle.std.proofs.Common.{refl}
use Rattle.span_store.proofs.StoreLaws.{stacks_restored}
use Rattle.span_registry.proofs.laws.leaving_undoes_entering.Goals as goal

pub returns : goal.returns
returns c = λ s lane x. record { stacks = λ any. stacks_restored s lane x any; rest = refl }
