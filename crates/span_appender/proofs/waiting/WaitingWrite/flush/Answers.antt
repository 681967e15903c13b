use Rattle.std.proofs.Common.{refl}
use Rattle.span_appender.specs.Queue.{begun, lines_of}
use Rattle.span_appender.proofs.Handed.{begins, ended}
use Rattle.span_appender.proofs.waiting.WaitingWrite.flush.Goals as goal

pub returns-in-Ok : goal.returns-in-Ok
returns-in-Ok g c =
    let a = lines_of c.args.self.now in
    record { bytes = ended (begun a) a (lines_of c.end_line.new.self) refl c.in-Ok.ensures.none c.in-Ok.ensures.line }

pub returns-in-Err : goal.returns-in-Err
returns-in-Err g c = record { bytes = begins (lines_of c.args.self.now) (lines_of c.end_line.new.self) _ c.in-Err.ensures.err }
