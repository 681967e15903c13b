use Rattle.std.proofs.Common.{◌-◌, ◌+◌, ◌≤◌, length, max, vec_len}
use Rattle.span_sender.specs.Reply.{ReadsBehind}
use Rattle.span_sender.proofs.reply.read_answer.Given as goal

-- the bytes are those that came, behind those that were there
abbrev pub invariant-loop-chunk : goal.invariant-loop-chunk
invariant-loop-chunk g l =
    record {
      read : ReadsBehind (g.C.Read.remaining l.fn.connection) (g.C.Read.remaining l.connection) l.fn.bytes.items l.bytes.items;
      most : length l.bytes.items ≤ max (length l.fn.bytes.items) (65536 + 1024);
    }

abbrev pub decreases-loop-chunk : goal.decreases-loop-chunk
decreases-loop-chunk g l = 65536 - vec_len l.bytes
