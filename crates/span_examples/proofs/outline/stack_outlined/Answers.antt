use Rattle.std.proofs.Common.{◌∙◌, arith, ap, refl}
use Rattle.span_stacks.specs.Layered.{inner_of, with_inner}
use Rattle.span_registry.specs.Form.{Terminal, Base}
use Rattle.span_examples.proofs.Lines.{new_outlined}
use Rattle.span_examples.proofs.PutOn.{another, bare_form, bare_stands, form_on, itself, on_form, put_on, ready, room_for_one}
use Rattle.span_examples.specs.Outline.{has_failed, text_in}
use Rattle.span_examples.proofs.outline.stack_outlined.Goals as goal

pub returns-in-Err-clause-memory : goal.returns-in-Err-clause-memory
returns-in-Err-clause-memory c =
    absurd (room_for_one itself another bare_form (λ i w. refl) (λ i w f h. h) c.args.other
    0 c.new-2.result _ _ (bare_stands _ c.new-2.result c.new-2.ensures).filters (omega arith) c.with_filter-recorder.ensures c.in-Err.ensures.refused.full)

pub returns-in-Err-with-clause-memory : goal.returns-in-Err-with-clause-memory
returns-in-Err-with-clause-memory c =
    let first = c.in-Ok.ensures.attached in
    let stands = bare_stands _ c.new-2.result c.new-2.ensures in
    let below = put_on itself another bare_form (λ i w. refl) (λ i w f h. h) c.numbers_are_own.ensures
    c.args.other (Terminal Base) 0 c.new-2.result _ _ c.in-Ok.stack stands c.with_filter-recorder.ensures first.numbers first.room first.layer_as_it_was in
    absurd (room_for_one inner_of with_inner (on_form bare_form) (λ j w. refl)
    (λ j w f h. h) c.args.level 1 c.in-Ok.stack _ _ below.stands.filters (omega arith) c.with_filter-layer.ensures c.in-Err-with.ensures.refused.full)

pub returns-in-Ok-with-clause-starts : goal.returns-in-Ok-with-clause-starts
returns-in-Ok-with-clause-starts c =
    let law = c.numbers_are_own.ensures in
    let first = c.in-Ok.ensures.attached in
    let second = c.in-Ok-with.ensures.attached in
    let fresh = c.new-2.result in
    let other = c.with_filter-recorder.ensures in
    let recorder = put_on itself another bare_form (λ i w. refl) (λ i w f h. h) law c.args.other
    (Terminal Base) 0 fresh c.new.result _ c.in-Ok.stack (bare_stands _ fresh c.new-2.ensures) other first.numbers first.room first.layer_as_it_was in
    let outline =
    put_on inner_of with_inner (on_form bare_form) (λ j w. refl) (λ j w f h. h) law c.args.level (form_on c.args.other 0 (Terminal Base))
    1 c.in-Ok.stack c.new-4.result _ c.in-Ok-with.stack recorder.stands c.with_filter-layer.ensures second.numbers second.room second.layer_as_it_was in
    record {
      new = new_outlined c.args.level c.args.other fresh c.new.result c.new-4.result c.in-Ok.stack c.in-Ok-with.stack
          c.new.ensures (ap text_in c.new-4.ensures ∙ c.new-3.ensures.text) (ap has_failed c.new-4.ensures ∙ c.new-3.ensures.failed) recorder outline;
      ready = ready _ _ _ _ _ _ 2 c.in-Ok-with.stack outline.stands;
      usable = (second.outer, second.inner);
      empty = outline.stands.empty;
    }
