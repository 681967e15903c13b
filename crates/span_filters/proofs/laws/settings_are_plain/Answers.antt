use Rattle.std.proofs.Common.{refl}
use Rattle.span_filters.proofs.Steady.{setting_plain}
use Rattle.span_filters.proofs.laws.settings_are_plain.Goals as goal

pub returns : goal.returns
returns g c = (refl, setting_plain c.args.filter.now)
