use Rattle.rtrb.specs.Ring.{sent}
use Rattle.span_appender.proofs.Handed.{rest_written}
use Rattle.span_appender.proofs.worker.Worker.write_rest.Goals as goal

pub returns-clause-written : goal.returns-clause-written
returns-clause-written g c = λ first h lost.
    let known = c.write_known.ensures.kept first h in
    let flushed = c.flush.ensures.whole lost in
    let line = c.write_line.ensures.whole flushed.0 in
    let lines = rw c.write_known.ensures.all at known.whole line.0 in
    let begun = rw (c.deref.ensures.value, c.replace-begun.ensures.value) at line.1 in
    rest_written (λ l. l.items) _ _ _ _ (sent c.args.lines.now.queue) c.args.lines.now.begun.items lines begun flushed.1
