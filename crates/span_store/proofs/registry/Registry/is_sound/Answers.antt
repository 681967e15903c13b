use Rattle.std.proofs.Common.{subst}
use Rattle.span_store.specs.Store.{AreIssued, RegistryState}
use Rattle.span_store.proofs.Added.{all_issued}
use Rattle.span_store.proofs.registry.Registry.is_sound.Goals as goal

pub returns-clause-issued : goal.returns-clause-issued
returns-clause-issued c = subst (λ (s : RegistryState). AreIssued s.store) c.self.view_is (all_issued c.self.inside.spans c.is_sound.ensures)
