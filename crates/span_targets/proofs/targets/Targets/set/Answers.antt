use Rattle.std.proofs.Common.{◌∙◌, sym, ap}
use Rattle.std.specs.Option.{option_copied}
use Rattle.span_targets.proofs.targets.Targets.set.Goals as goal
use Rattle.span_targets.specs.Names.{naming}
use Rattle.span_targets.specs.Targets.{names_of}

pub returns-in_ok-add-in-Some : goal.returns-in_ok-add-in-Some
returns-in_ok-add-in-Some c =
    c.in_ok-add-in-Some.ensures.ok ∙ ap (λ o. naming (option_copied o) c.args.said.level (names_of c.args.self.now)) (sym c.in-Some.is)
