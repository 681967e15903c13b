use Rattle.std.proofs.lemmas.Option.{slice_get-get_or}
use Rattle.span_script.proofs.Naming.{AreNames-all, AreNames-past, AreNames-named}
use Rattle.span_script.proofs.reply.Names.new.Goals as goal
use Rattle.span_script.proofs.reply.Names.new.Goals.{in-Some+in_ok-insert, in_default}

pub loop-place-preserved : goal.loop-place-preserved
loop-place-preserved c = elim c.match-named.branch [
  | in-Some+in_ok-insert w ↦ (rw w.labels-is
      (AreNames-named c.args.lines.now c.args.answers.now c.loop-place.place c.loop-place.labels w.insert.new.self _ w.in-Some.number w.in-Some.label
      (slice_get-get_or c.args.lines.now c.loop-place.place _ c.loop-place-test.true) c.loop-place.invariant
      w.in-Some.ensures w.in_ok-insert.ensures.updates.0))
  | in_default w ↦ (rw w.labels-is (AreNames-past c.args.lines.now c.args.answers.now c.loop-place.place c.loop-place.labels _
      (slice_get-get_or c.args.lines.now c.loop-place.place _ c.loop-place-test.true) c.loop-place.invariant w.in_default.ensures))
]

pub returns : goal.returns
returns c = AreNames-all c.args.lines.now c.args.answers.now c.loop-place.place c.loop-place.labels c.loop-place-test.false c.loop-place.invariant
