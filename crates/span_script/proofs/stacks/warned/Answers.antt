use Rattle.span_script.proofs.Begins.{begins_warned, warned_has_room}
use Rattle.span_script.proofs.stacks.warned.Goals as goal

pub put-requires-clause-room : goal.put-requires-clause-room
put-requires-clause-room c = warned_has_room c.with_filter-warn.result c.new.result c.plain.result c.plain.ensures c.with_filter-warn.ensures

pub returns : goal.returns
returns c =
    let h = c.put.ensures in
    begins_warned c.with_filter-warn.result c.new.result c.plain.result c.plain.ensures c.with_filter-warn.ensures
    c.put.result c.new.ensures h.numbers.alone h.numbers.form h.numbers.next h.layer_as_it_was
