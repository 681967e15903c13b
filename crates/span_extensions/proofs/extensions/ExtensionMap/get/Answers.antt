use Rattle.std.proofs.Common.{sym}
use Rattle.span_extensions.proofs.Tabled.{none_under, untabled}
use Rattle.span_extensions.proofs.extensions.ExtensionMap.get.Goals as goal

pub returns-in-None : goal.returns-in-None
returns-in-None g c = sym (none_under g.T.ExtensionValue.place
    g.met.T.ExtensionValue.begins_empty c.args.self.now c.args.tag (untabled c.self.inside.tables c.args.self.now c.self.view_is c.in-None.is))
