use Rattle.std.proofs.Common.{◌∙◌, ap}
use Rattle.std.specs.Option.{option_or, unwrap_or}
use Rattle.span_core.specs.declared.level.TheConstants.LevelFilter.{OFF}
use Rattle.span_targets.proofs.Longest.{first_is_longest}
use Rattle.span_targets.specs.private.Order.{first_level}
use Rattle.span_targets.proofs.targets.Targets.level_for.Goals as goal

pub returns-in-Some : goal.returns-in-Some
returns-in-Some c =
    let f = c.args.self.now in
    let t = c.args.target.now in
    let is = c.in-Some.ensures ∙ ap (λ ds. first_level ds t) c.deref.ensures.value ∙ first_is_longest f.directives.items f.default t f.ordered in
    ap (λ o. unwrap_or (option_or o f.default) OFF) is

pub returns-in-None : goal.returns-in-None
returns-in-None c =
    let f = c.args.self.now in
    let t = c.args.target.now in
    let is = c.in-None.ensures ∙ ap (λ ds. first_level ds t) c.deref.ensures.value ∙ first_is_longest f.directives.items f.default t f.ordered in
    c.unwrap_or.ensures ∙ ap (λ o. unwrap_or (option_or o f.default) OFF) is
