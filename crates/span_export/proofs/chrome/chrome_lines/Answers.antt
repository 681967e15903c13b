use Rattle.span_export.proofs.Events.{events_are_shallow}
use Rattle.span_export.proofs.chrome.chrome_lines.Goals as goal

pub lines_of-requires : goal.lines_of-requires
lines_of-requires c = rw c.deref.ensures.value
    (events_are_shallow c.args.table c.args.begin c.args.points.now c.in_ok-events.events.items c.in_ok-events.ensures)
