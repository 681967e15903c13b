use Rattle.std.proofs.Common.{refl, ◌∙◌}
use Rattle.span_appender.specs.Lines.{ends_line, first_piece}
use Rattle.span_appender.specs.Queue.{begun, lines_of}
use Rattle.span_appender.proofs.Handed.{begins, pieced}
use Rattle.span_appender.proofs.waiting.WaitingWrite.write.Goals as goal

pub returns-in-Ok-clause-bytes : goal.returns-in-Ok-clause-bytes
returns-in-Ok-clause-bytes g c =
    let piece = first_piece c.args.buf.now in
    rw c.in-Ok.ensures.count (pieced (ends_line piece) (lines_of c.args.self.now) (lines_of c.put.new.self) piece c.in-Ok.ensures.line c.in-Ok.ensures.piece)

pub returns-in-Err-clause-bytes : goal.returns-in-Err-clause-bytes
returns-in-Err-clause-bytes g c = begins (lines_of c.args.self.now) (lines_of c.put.new.self) _ c.in-Err.ensures.err
