use Rattle.std.proofs.Common.{◌∙◌, [], refl}
use Rattle.span_dispatch.proofs.CallerLemmas.{heard_records}
use Rattle.span_stacks.specs.Layered.{outer_of}
use Rattle.span_registry.specs.Position.{Here, Outer}
use Rattle.span_examples.proofs.Standing.{finds_room, leaves_room, put_over, records_alone}
use Rattle.span_examples.proofs.kinds.put_under.Goals as goal

pub returns-in-Err-clause-memory : goal.returns-in-Err-clause-memory
returns-in-Err-clause-memory g c = absurd (finds_room c.numbers_are_own.ensures c.args.layer c.requires.fit _ _ c.new.ensures c.in-Err.ensures.refused.full)

pub returns-in-Err-with-clause-memory : goal.returns-in-Err-with-clause-memory
returns-in-Err-with-clause-memory g c =
    absurd (leaves_room c.numbers_are_own.ensures c.args.layer c.requires.fit _ _ c.new.ensures _ c.in-Ok.ensures.attached c.in-Err-with.ensures.refused.full)

pub returns-in-Ok-with-clause-stands : goal.returns-in-Ok-with-clause-stands
returns-in-Ok-with-clause-stands g c =
    (_, _, put_over c.numbers_are_own.ensures c.args.layer c.requires.fit _ _ c.new.ensures _ _ _ c.in-Ok.ensures.attached c.in-Ok-with.ensures.attached)

pub returns-in-Ok-with-clause-records : goal.returns-in-Ok-with-clause-records
returns-in-Ok-with-clause-records g c =
    records_alone _ c.other_layers_make_no_difference.ensures.of_requests.requests_alone (Outer Here) outer_of
    [] _ (c.in-Ok-with.ensures.attached.layer_as_it_was ∙ c.new-2.ensures) (λ y used. (used.0, refl)) (λ y z h k. heard_records h (outer_of y) (outer_of z) k)
