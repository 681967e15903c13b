use Rattle.std.proofs.Common.{ap, refl, sym}
use Rattle.span_filters.specs.Combinator.{not_answers}
use Rattle.span_filters.specs.Level.{level_answers, level_conduct}
use Rattle.span_examples.proofs.Standing.{recorded}
use Rattle.span_examples.specs.Kinds.{one_conduct}
use Rattle.span_examples.proofs.conducts.under_negated.Goals as goal

pub put_filtered-requires-clause-answers : goal.put_filtered-requires-clause-answers
put_filtered-requires-clause-answers c =
    let a = level_answers c.args.level in
    (not_answers a, record { inside = a; has_inside = ap level_answers (sym c.not.ensures); turned = refl })

pub returns-clause-kept : goal.returns-clause-kept
returns-clause-kept c =
    let a = level_conduct c.args.level in
    recorded c.args.requests.now c.serve_new.result
    (c.in_ok-stack.ensures.records (one_conduct not_answers a) (record { inside = a; acts_inside = ap level_conduct (sym c.not.ensures); turned = refl }))
    c.serve_new.ensures.served
