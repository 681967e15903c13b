use Rattle.std.proofs.Common.{refl, sym}
use Rattle.span_extensions.proofs.Tabled.{none_under, untabled}
use Rattle.span_extensions.proofs.extensions.ExtensionMap.get_mut.Goals as goal

pub returns-in-None : goal.returns-in-None
returns-in-None g c =
    let none = none_under g.T.ExtensionValue.place
    g.met.T.ExtensionValue.begins_empty c.args.self.now c.args.tag (untabled c.self.inside.tables c.args.self.now c.self.view_is c.in-None.is) in
    ((refl, λ w. tt, c.self.view_is), record { writes_back = tt; value = sym none })
