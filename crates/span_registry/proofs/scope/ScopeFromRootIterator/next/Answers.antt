use Rattle.span_registry.specs.References.{to_give_from_root}
use Rattle.span_registry.proofs.FromRoot.{progress_by, taken_back}
use Rattle.span_registry.proofs.scope.ScopeFromRootIterator.next.Goals as goal

pub returns-clause-steps : goal.returns-clause-steps
returns-clause-steps g c = rw c.flatten.ensures
    (taken_back c.args.self.now.spans.items c.pop.new.self.items c.pop.result c.args.self.now.full c.pop.ensures.items c.pop.ensures.variant)

pub returns-clause-goes : goal.returns-clause-goes
returns-clause-goes g c = progress_by to_give_from_root _ _ _ (returns-clause-steps g c)
