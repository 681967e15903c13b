use Rattle.std.proofs.Common.{ap, refl, sym}
use Rattle.span_filters.specs.Combinator.{or_answers}
use Rattle.span_filters.specs.Level.{level_answers, level_conduct}
use Rattle.span_examples.proofs.Standing.{recorded}
use Rattle.span_examples.specs.Kinds.{both_conduct}
use Rattle.span_examples.proofs.conducts.under_either.Goals as goal

pub put_filtered-requires-clause-answers : goal.put_filtered-requires-clause-answers
put_filtered-requires-clause-answers c =
    let a = level_answers c.args.first in
    let b = level_answers c.args.second in (
      or_answers a b,
      record {
        left = a;
        right = b;
        has_left = ap level_answers (sym c.or.ensures.first);
        has_right = ap level_answers (sym c.or.ensures.second);
        joined = refl;
      },
    )

pub returns-clause-kept : goal.returns-clause-kept
returns-clause-kept c =
    let a = level_conduct c.args.first in
    let b = level_conduct c.args.second in
    recorded c.args.requests.now c.serve_new.result (c.in_ok-stack.ensures.records (both_conduct or_answers a b) (record {
      left = a;
      right = b;
      acts_left = ap level_conduct (sym c.or.ensures.first);
      acts_right = ap level_conduct (sym c.or.ensures.second);
      joined = refl;
    })) c.serve_new.ensures.served
