use Rattle.std.proofs.Common.{◌≡◌, length}
use Rattle.std.specs.Io.KnownBytes.{Keeps}
use Rattle.span_sender.proofs.reply.read_once.Given as goal

-- nothing was read yet
abbrev pub invariant-loop : goal.invariant-loop
invariant-loop g l =
    record {
      keeps : Keeps (g.C.Read.remaining l.fn.connection) (g.C.Read.remaining l.connection);
      chunk : length l.chunk ≡ length l.fn.chunk;
    }
