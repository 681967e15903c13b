use Rattle.std.proofs.Common.{◌≡◌, ◌∙◌, sym, subst}
use Rattle.span_targets.proofs.Most.{is_most}
use Rattle.span_targets.proofs.targets.Targets.max_level.Goals as goal
use Rattle.span_targets.specs.Directive.{most_of}
use Rattle.span_targets.specs.Names.{IsMost}
use Rattle.span_targets.specs.Targets.{most_by, names_of}

pub returns-clause-most : goal.returns-clause-most
returns-clause-most c =
    let f = c.args.self.now in
    let value : c.most_of.result ≡ most_by f = c.most_of.ensures ∙ (λ i. most_of (c.level_for.ensures i) (c.deref.ensures.value i)) in
    subst (IsMost (names_of f)) (sym value) (is_most f)
