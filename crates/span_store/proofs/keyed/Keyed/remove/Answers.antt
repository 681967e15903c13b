use Rattle.std.proofs.Common.{arith}
use Rattle.std.proofs.lemmas.List.{map-set}
use Rattle.span_store.specs.declared.keyed.Place.TheVariants.{Vacant, Filled}
use Rattle.span_store.proofs.Linked.{filled_at, count-set, IsLinked-vacate}
use Rattle.slab.proofs.SlabLemmas.{ContainsKey-within, Updates-set}
use Rattle.span_store.proofs.keyed.Keyed.remove.Goals as goal

pub invariant_of-self : goal.invariant_of-self
invariant_of-self g c =
    let found = filled_at c.self.inside.places.items c.args.key (rw (← c.self.view_is) at c.requires) in
    rw c.replace.ensures.after (IsLinked-vacate _ _ _ c.args.key found.0 c.self.invariant found.1)

pub returns-clause-updates : goal.returns-clause-updates
returns-clause-updates g c =
    Updates-set _ _ c.args.key _ (ContainsKey-within c.args.self.now c.args.key c.requires) (rw (← c.self.view_is, c.replace.ensures.after, map-set))

pub returns-clause-slots : goal.returns-clause-slots
returns-clause-slots g c = rw (← c.self.view_is, c.replace.ensures.after, map-set)

pub returns-clause-len : goal.returns-clause-len
returns-clause-len g c =
    let found = filled_at c.self.inside.places.items c.args.key (rw (← c.self.view_is) at c.requires) in
    let counted = count-set c.self.inside.places.items c.args.key (Filled found.0) (Vacant c.self.inside.next) found.1 in
    rw (← c.self.view_is, c.replace.ensures.after) (omega arith)
