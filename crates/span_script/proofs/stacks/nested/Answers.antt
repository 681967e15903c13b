use Rattle.span_script.proofs.Begins.{begins_nested, nested_has_room}
use Rattle.span_script.proofs.stacks.nested.Goals as goal

pub put-requires-clause-room : goal.put-requires-clause-room
put-requires-clause-room c =
    nested_has_room c.with_filter.result
    c.with_filter-deep.result c.new.result _ c.plain.result c.plain.ensures c.with_filter-deep.ensures c.with_filter.ensures

pub returns : goal.returns
returns c =
    let h = c.put.ensures in
    begins_nested c.with_filter.result c.with_filter-deep.result c.new.result _ c.plain.result c.plain.ensures c.with_filter-deep.ensures c.with_filter.ensures
    c.put.result c.new.ensures h.numbers.alone h.numbers.form h.numbers.next h.layer_as_it_was.1
