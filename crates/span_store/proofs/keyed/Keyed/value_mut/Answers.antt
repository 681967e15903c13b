use Rattle.std.proofs.Common.{None, refl, sym, ap, ◌∙◌}
use Rattle.std.proofs.lemmas.List.{map-set, get_or-map}
use Rattle.std.proofs.lemmas.Option.{slice_get_within}
use Rattle.span_store.specs.private.Keyed.{value_of}
use Rattle.span_store.proofs.Linked.{filled_at, IsLinked-rewrite}
use Rattle.span_store.proofs.keyed.Keyed.value_mut.Goals as goal

pub invariant_of-self-lent : goal.invariant_of-self-lent
invariant_of-self-lent g c w =
    let found = filled_at c.self.inside.places.items c.args.key (rw (← c.self.view_is) at c.requires) in
    IsLinked-rewrite _ _ _ c.args.key found.0 w c.self.invariant found.1

pub returns : goal.returns
returns g c =
    let found = filled_at c.self.inside.places.items c.args.key (rw (← c.self.view_is) at c.requires) in
    let within = slice_get_within c.self.inside.places.items c.args.key _ found.1 in
    let value = get_or-map value_of c.self.inside.places.items c.args.key c.index_mut.result.now None within in (
      (refl, λ w. rw (← c.self.view_is, map-set)),
      record { writes_back = tt; value = rw (← c.self.view_is) (value ∙ ap value_of (sym c.index_mut.ensures.value) ∙ c.value_mut.ensures.value) },
    )
