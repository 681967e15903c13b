use Rattle.std.proofs.Common.{Some, sym, ap, ◌∙◌, arith}
use Rattle.std.proofs.lemmas.List.{map-set, length-map}
use Rattle.span_store.specs.declared.keyed.Place.TheVariants.{Vacant, Filled}
use Rattle.span_store.specs.private.Keyed.{value_of}
use Rattle.span_store.proofs.Linked.{full_at_end, next_within, read_at_next, next_is_not_filled, count-set, IsLinked-push, IsLinked-fill}
use Rattle.slab.proofs.SlabLemmas.{Updates-set}
use Rattle.span_store.proofs.keyed.Keyed.insert_reserved.Goals as goal

pub push_reserved-requires : goal.push_reserved-requires
push_reserved-requires g c =
    let room = rw (← c.self.view_is) at c.requires in
    omega (arith, full_at_end _ _ _ c.self.invariant (omega arith))

pub invariant_of-self : goal.invariant_of-self
invariant_of-self g c = rw c.push_reserved.ensures.items (IsLinked-push _ _ _ c.args.value c.self.invariant (omega arith))

pub index_mut-requires : goal.index_mut-requires
index_mut-requires g c = omega (arith, next_within _ _ _ c.self.invariant (λ e. omega arith))

pub invariant_of-self-in-Vacant : goal.invariant_of-self-in-Vacant
invariant_of-self-in-Vacant g c =
    let found = read_at_next _ _ _ _ c.self.invariant (λ e. omega arith) c.index_mut.ensures.value in
    rw c.replace.ensures.after (IsLinked-fill _ _ _ _ c.args.value c.self.invariant (found ∙ ap Some (sym c.replace.ensures.value ∙ c.in-Vacant.is)))

pub unreachable-requires : goal.unreachable-requires
unreachable-requires g c =
    let found = read_at_next _ _ _ _ c.self.invariant (λ e. omega arith) c.index_mut.ensures.value in
    next_is_not_filled _ _ _ _ c.self.invariant (found ∙ ap Some (sym c.replace.ensures.value ∙ c.in-Filled.is))

pub returns-clause-updates : goal.returns-clause-updates
returns-clause-updates g c =
    let within = next_within _ _ _ c.self.invariant (λ e. omega arith) in
    rw (← c.self.view_is) (Updates-set _ _ _ _ (omega (arith, length-map c.self.inside.places.items value_of)) (rw (c.replace.ensures.after, map-set)))

pub returns-clause-len : goal.returns-clause-len
returns-clause-len g c =
    let found = read_at_next _ _ _ _ c.self.invariant (λ e. omega arith) c.index_mut.ensures.value in
    let vacant = found ∙ ap Some (sym c.replace.ensures.value ∙ c.in-Vacant.is) in
    let counted = count-set c.self.inside.places.items c.self.inside.next (Vacant c.in-Vacant.next) (Filled c.args.value) vacant in
    rw (← c.self.view_is, c.replace.ensures.after) (omega arith)
