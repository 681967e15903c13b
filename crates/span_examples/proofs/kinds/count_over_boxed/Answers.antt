use Rattle.std.proofs.Common.{◌∙◌, [], ap, refl, rules, subst, true}
use Rattle.span_boxed.proofs.CallerLemmas.{form_in_a_box}
use Rattle.span_boxed.proofs.FilterCallerLemmas.{in_a_box}
use Rattle.span_stacks.specs.Layered.{outer_of}
use Rattle.span_layers.specs.Observe.{open_answers}
use Rattle.span_registry.specs.Form.{Leaf}
use Rattle.span_registry.specs.Position.{Here, Outer}
use Rattle.span_examples.proofs.Standing.{counts_alone, open_fit}
use Rattle.span_examples.specs.Kinds.{IsCounted}
use Rattle.span_examples.proofs.kinds.count_over_boxed.OwnLists.{own-1, at-1-1}
use Rattle.span_examples.proofs.kinds.count_over_boxed.Goals as goal

pub put_under-requires-clause-usable : goal.put_under-requires-clause-usable
put_under-requires-clause-usable c = rw c.new-layer.ensures (in_a_box own-1 at-1-1 (λ j x. j.1.dyn_usable x) c.into_dyn_box.ensures.1 tt)

pub put_under-requires-clause-fit : goal.put_under-requires-clause-fit
put_under-requires-clause-fit c =
    open_fit c.new-layer.result (form_in_a_box own-1
    at-1-1 (λ j. j.1.dyn_form) c.new-layer.result c.in_ok-new.field-0.value (Leaf true open_answers) (rw c.new-layer.ensures c.into_dyn_box.ensures.1) refl)

pub returns-clause-counted : goal.returns-clause-counted
returns-clause-counted c =
    let recorder = c.outer.ensures ∙ ap outer_of c.stack.ensures in
    counts_alone _ (Outer Here) outer_of [] c.args.requests.now
    (c.in_ok-dispatch.dispatch, c.in_ok-dispatch.answers) c.count-counted.result (c.in_ok-stack.ensures.records _ _ c.in_ok-dispatch.ensures.served)
    (subst (λ r. IsCounted r c.count-counted.result) recorder c.count-counted.ensures)
