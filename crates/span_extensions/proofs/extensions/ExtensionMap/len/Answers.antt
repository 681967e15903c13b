use Rattle.std.proofs.Common.{ℕ, min, sym, ap, ◌∙◌}
use Rattle.span_extensions.specs.Extensions.{ExtensionMap, value_count}
use Rattle.span_extensions.proofs.Tabled.{counts_none, untabled}
use Rattle.span_extensions.proofs.extensions.ExtensionMap.len.Goals as goal

pub returns-in-None : goal.returns-in-None
returns-in-None c =
    let none = untabled c.self.inside.tables c.args.self.now c.self.view_is c.in-None.is in
    sym (ap (λ (n : ℕ). min n 18446744073709551615) (ap (λ (m : ExtensionMap). value_count m) none ∙ counts_none))
