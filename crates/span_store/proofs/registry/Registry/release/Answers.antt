use Rattle.span_store.proofs.States.{refuses_release, releases, sound_released}
use Rattle.span_store.proofs.registry.Registry.release.Goals as goal

pub invariant_of-self : goal.invariant_of-self
invariant_of-self c = sound_released c.self.inside
    c.args.self.now c.args.id c.release.result c.release.new.self c.self.view_is c.self.invariant c.release.ensures.released c.release.ensures.unchanged

pub returns-clause-released : goal.returns-clause-released
returns-clause-released c =
    releases c.self.inside c.args.self.now c.args.id c.release.result c.release.new.self c.self.view_is c.self.invariant c.release.ensures.released

pub returns-clause-refused : goal.returns-clause-refused
returns-clause-refused c = refuses_release c.self.inside c.args.self.now c.args.id c.release.result c.self.view_is c.self.invariant c.release.ensures.refused
