use Rattle.std.proofs.Common.{refl, sym, ap, ◌∙◌}
use Rattle.std.specs.FinMap as map
use Rattle.span_extensions.proofs.NumberMaps.{get-of_entries, written}
use Rattle.span_extensions.proofs.table.Table.get_mut.Goals as goal

pub returns : goal.returns
returns g c = (
  (
    refl,
    λ w. rw (← c.self.view_is) (written _ c.self.inside.entries (c.get_mut.follows.lender w) _ w c.get_mut.ensures.value (c.get_mut.follows.holds w)),
    ap (λ m. map.from_entries m.entries) c.get_mut.follows.holds-at-none ∙ c.self.view_is,
  ),
  record { writes_back = tt; value = c.get_mut.ensures.value ∙ sym (get-of_entries _ _) ∙ ap (λ m. map.get m c.args.number) c.self.view_is },
)
