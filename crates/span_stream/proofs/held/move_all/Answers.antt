use Rattle.serde_json.specs.View.{members_view}
use Rattle.span_stream.proofs.Holding.{waiting_moved}
use Rattle.span_stream.specs.Held.{with_waiting}
use Rattle.span_stream.proofs.held.move_all.Goals as goal

pub loop-one-preserved : goal.loop-one-preserved
loop-one-preserved c =
    waiting_moved c.loop-one.waiting.items c.pop.new.self.items c.in-Some.one (members_view c.loop-one.settled.entries)
    (members_view c.move_one.new.settled.entries) (with_waiting c.args.waiting.now.items (members_view c.args.settled.now.entries))
    c.in-Some.ensures.items c.in_default-move_one.ensures.moved c.loop-one.invariant
