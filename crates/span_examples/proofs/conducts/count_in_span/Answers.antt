use Rattle.std.proofs.Common.{◌∙◌, None, ap, refl, rules, subst, sym}
use Rattle.span_filters.proofs.Views.{shown_by_some}
use Rattle.span_filters.specs.Closure.{AnswersAllIn, interest_under, view_answers}
use Rattle.span_filters.specs.laws.Closure.{made_of_test}
use Rattle.span_stacks.specs.Filtered.{layer_of}
use Rattle.span_stacks.specs.Layered.{outer_of}
use Rattle.span_stacks.specs.Stands.{another, itself}
use Rattle.span_registry.specs.Context.{view_in}
use Rattle.span_examples.proofs.Standing.{counts_under, in_span_plain}
use Rattle.span_examples.specs.Kinds.{IsCounted, in_a_span}
use Rattle.span_examples.proofs.conducts.count_in_span.Goals as goal

pub put_filtered-requires-clause-answers : goal.put_filtered-requires-clause-answers
put_filtered-requires-clause-answers c =
    (view_answers in_a_span (interest_under None) None, made_of_test _ _ _ _ _ in_a_span c.dynamic_filter_fn-filter.ensures (λ m n r h. search rules))

pub returns-clause-counted : goal.returns-clause-counted
returns-clause-counted c =
    let a = view_answers in_a_span (interest_under None) None in
    let acts = c.view_tests_may_be_plain.ensures (λ m s lane mask.
    let d = shown_by_some itself another (λ x w. refl) c.in_ok-dispatch.dispatch.stack.inner s lane mask in (
      d.0,
      d.1,
      (
        in_a_span m (view_in itself d.0),
        record {
          value = record { ref_ptr = (0, 0); now = m };
          context = record { ref_ptr = (0, 0); now = d.0 };
          shows = (refl, refl);
          says = record { met = refl };
        },
      ),
    )) a (made_of_test _ _ _ _ _ in_a_span c.dynamic_filter_fn-filter.ensures (λ m n r h. search rules)) in_span_plain in
    let recorder = c.layer.ensures ∙ ap layer_of (c.outer.ensures ∙ ap outer_of c.stack.ensures) in
    counts_under _ (λ h. a) c.args.requests.now (c.in_ok-dispatch.dispatch, c.in_ok-dispatch.answers)
    c.count-counted.result (c.in_ok-stack.ensures.records (λ h. a) acts _ _ c.in_ok-dispatch.ensures.served)
    (subst (λ r. IsCounted r c.count-counted.result) recorder c.count-counted.ensures)
