use Rattle.std.proofs.Common.{◌≡◌, refl, ap, ◌∙◌}
use Rattle.std.specs.Option.{ghost_name_of}
use Rattle.span_extensions.proofs.Lending.{on_some}
use Rattle.span_extensions.proofs.extension_tables.ExtensionTables.get_mut.Goals as goal

pub returns : goal.returns
returns g c =
    let place = g.T.ExtensionValue.place in
    let own : c.get_mut.follows.lender-at-none ≡ place.values c.args.self.now = c.get_mut.follows.holds-at-none ∙ c.table_mut.ensures.value in (
      (
        refl {a = ghost_name_of c.get_mut.result},
        λ w. on_some c.get_mut.result (λ e. ap (place.with_values c.args.self.now) (e ∙ cc)) (c.get_mut.follows.holds w),
        ap (place.with_values c.args.self.now) own ∙ g.met.T.ExtensionValue.with_own c.args.self.now,
      ),
      record { writes_back = tt; value = cc },
    )
