use Rattle.std.proofs.Common.{◌∙◌, ◌≡◌, Bool, None, ap, refl, rules, subst, sym}
use Rattle.span_core.specs.Level.{passes_level}
use Rattle.span_core.specs.Metadata.{level_of}
use Rattle.span_core.specs.declared.level.LevelFilter.{LevelFilter}
use Rattle.span_core.specs.declared.metadata.Metadata.{Metadata}
use Rattle.span_filters.specs.Closure.{GoesByWhatShows, test_answers}
use Rattle.span_stacks.specs.Filtered.{layer_of}
use Rattle.span_stacks.specs.Layered.{outer_of}
use Rattle.span_examples.proofs.Standing.{counts_under, tested}
use Rattle.span_examples.specs.Kinds.{IsCounted}
use Rattle.span_examples.proofs.conducts.count_tested.Goals as goal

abbrev test_of : LevelFilter → Metadata → Bool
test_of level m = passes_level level (level_of m)

goes_by_level : (level : LevelFilter) → GoesByWhatShows (test_of level)
goes_by_level level m k e = ap (passes_level level) e.level

pub put_filtered-requires-clause-answers : goal.put_filtered-requires-clause-answers
put_filtered-requires-clause-answers c = (
  test_answers (test_of c.args.level) None,
  tested _ _ _ (test_of c.args.level) c.filter_fn-filter.ensures
      (λ m. (test_of c.args.level m, record { shown = record { ref_ptr = (0, 0); now = m }; shows = refl; says = record { met = refl } }))
      (λ m r h. search rules) (goes_by_level c.args.level),
)

pub returns-clause-counted : goal.returns-clause-counted
returns-clause-counted c =
    let a = test_answers (test_of c.args.level) None in
    let acts = c.tests_are_plain.ensures a (tested _ _ _ (test_of c.args.level) c.filter_fn-filter.ensures
    (λ m. (test_of c.args.level m, record { shown = record { ref_ptr = (0, 0); now = m }; shows = refl; says = record { met = refl } }))
    (λ m r h. search rules) (goes_by_level c.args.level)) in
    let recorder = c.layer.ensures ∙ ap layer_of (c.outer.ensures ∙ ap outer_of c.stack.ensures) in
    counts_under _ (λ h. a) c.args.requests.now (c.in_ok-dispatch.dispatch, c.in_ok-dispatch.answers)
    c.count-counted.result (c.in_ok-stack.ensures.records (λ h. a) acts _ _ c.in_ok-dispatch.ensures.served)
    (subst (λ r. IsCounted r c.count-counted.result) recorder c.count-counted.ensures)
