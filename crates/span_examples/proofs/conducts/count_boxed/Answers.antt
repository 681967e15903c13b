use Rattle.std.proofs.Common.{◌∙◌, ap, refl, rules, subst, sym}
use Rattle.span_boxed.proofs.FilterCallerLemmas.{acts_in_a_box, answers_in_a_box, in_a_box}
use Rattle.span_filters.specs.Level.{level_answers, level_conduct}
use Rattle.span_filters.specs.laws.Level.{level_laws}
use Rattle.span_stacks.specs.Filtered.{layer_of}
use Rattle.span_stacks.specs.Layered.{outer_of}
use Rattle.span_examples.proofs.Standing.{counts_under}
use Rattle.span_examples.specs.Kinds.{IsCounted}
use Rattle.span_examples.proofs.conducts.count_boxed.OwnLists.{own-1, at-1-1}
use Rattle.span_examples.proofs.conducts.count_boxed.Goals as goal

pub put_filtered-requires-clause-usable : goal.put_filtered-requires-clause-usable
put_filtered-requires-clause-usable c = rw c.new-filter.ensures (in_a_box own-1 at-1-1 (λ j f. j.1.dyn_usable f) c.into_dyn_box.ensures.1 tt)

pub put_filtered-requires-clause-answers : goal.put_filtered-requires-clause-answers
put_filtered-requires-clause-answers c =
    let level = c.in_ok-new.field-0.value in (
      level_answers level,
      rw c.new-filter.ensures (answers_in_a_box own-1 at-1-1 (λ j. j.1.dyn_answers) level_laws c.into_dyn_box.ensures.1 (level_answers level) refl),
    )

pub returns-clause-counted : goal.returns-clause-counted
returns-clause-counted c =
    let b = level_conduct c.args.level in
    let recorder = c.layer.ensures ∙ ap layer_of (c.outer.ensures ∙ ap outer_of c.stack.ensures) in
    counts_under _ b c.args.requests.now (c.in_ok-dispatch.dispatch, c.in_ok-dispatch.answers)
    c.count-counted.result (c.in_ok-stack.ensures.records b (rw c.new-filter.ensures (acts_in_a_box own-1 at-1-1 (λ j. j.1.dyn_answers)
    (λ j. j.1.dyn_acts) level_laws c.into_dyn_box.ensures.1 b (ap level_conduct (sym c.in_ok-new.ensures.ok)))) _ _ c.in_ok-dispatch.ensures.served)
    (subst (λ r. IsCounted r c.count-counted.result) recorder c.count-counted.ensures)
