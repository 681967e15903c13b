use Rattle.std.proofs.Common.{refl}
use Rattle.span_filters.specs.Level.{level_answers, level_conduct}
use Rattle.span_examples.proofs.Standing.{recorded}
use Rattle.span_examples.proofs.conducts.under_optional.Goals as goal

pub put_filtered-requires-clause-answers : goal.put_filtered-requires-clause-answers
put_filtered-requires-clause-answers c = (level_answers c.args.level, refl)

pub returns-clause-kept : goal.returns-clause-kept
returns-clause-kept c =
    recorded c.args.requests.now c.serve_new.result (c.in_ok-stack.ensures.records (level_conduct c.args.level) refl) c.serve_new.ensures.served
