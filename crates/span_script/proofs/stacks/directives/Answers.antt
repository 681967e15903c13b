use Rattle.span_script.proofs.Begins.{begins_directives, directives_has_room}
use Rattle.span_script.proofs.stacks.directives.Goals as goal

pub put-requires-clause-room : goal.put-requires-clause-room
put-requires-clause-room c = directives_has_room c.with_filter-chosen.result c.new.result c.plain.result c.plain.ensures c.with_filter-chosen.ensures

pub returns : goal.returns
returns c =
    let h = c.put.ensures in
    begins_directives c.with_filter-chosen.result c.new.result c.plain.result c.plain.ensures c.with_filter-chosen.ensures
    c.put.result c.new.ensures h.numbers.alone h.numbers.form h.numbers.next h.layer_as_it_was
