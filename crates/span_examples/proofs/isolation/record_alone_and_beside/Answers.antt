use Rattle.span_examples.proofs.Beside.{alone_put, beside_put, keep_the_same, room_for_second}
use Rattle.span_examples.proofs.Recorded.{has_room_at_first}
use Rattle.span_examples.proofs.isolation.record_alone_and_beside.Goals as goal

pub returns-in-Err-clause-memory : goal.returns-in-Err-clause-memory
returns-in-Err-clause-memory c = absurd (has_room_at_first _ _ _ _ _ c.new-2.ensures c.with_filter-first.ensures c.in-Err.ensures.refused.full)

pub returns-in-Err-with-clause-memory : goal.returns-in-Err-with-clause-memory
returns-in-Err-with-clause-memory c = absurd (has_room_at_first _ _ _ _ _ c.new-4.ensures c.with_filter-second.ensures c.in-Err-with.ensures.refused.full)

pub returns-in-Err-with-2-clause-memory : goal.returns-in-Err-with-2-clause-memory
returns-in-Err-with-2-clause-memory c =
    let second = c.in-Ok-with.ensures.attached in
    let within = alone_put c.numbers_are_own.ensures
    c.args.level _ _ _ _ _ c.new-4.ensures c.new-3.ensures c.with_filter-second.ensures second.numbers second.room second.layer_as_it_was in
    absurd (room_for_second _ _ _ _ _ _ within c.with_filter-third.ensures c.in-Err-with-2.ensures.refused.full)

pub returns-clause-same : goal.returns-clause-same
returns-clause-same c =
    let first = c.in-Ok.ensures.attached in
    let second = c.in-Ok-with.ensures.attached in
    let third = c.in-Ok-with-2.ensures.attached in
    let law = c.numbers_are_own.ensures in
    let alone = alone_put law c.args.level _ _ _ _ _ c.new-2.ensures c.new.ensures c.with_filter-first.ensures first.numbers first.room first.layer_as_it_was in
    let within =
    alone_put law c.args.level _ _ _ _ _ c.new-4.ensures c.new-3.ensures c.with_filter-second.ensures second.numbers second.room second.layer_as_it_was in
    let beside =
    beside_put law c.args.level c.args.other _ _ _ _ _ within c.new-5.ensures c.with_filter-third.ensures third.numbers third.room third.layer_as_it_was in
    keep_the_same c.args.level c.args.other c.other_layers_make_no_difference.ensures.of_requests.requests
    c.args.requests.now _ _ _ _ _ _ _ alone within beside c.in_ok-serve_first.ensures.served c.in_ok-serve_first-2.ensures.served
