use Rattle.std.proofs.Common.{◌≤◌, vec_len}
use Rattle.std.specs.Io.KnownBytes.{Consumes}
use Rattle.span_script.specs.declared.read.TheConstants.{SCRIPT_LIMIT}
use Rattle.span_script.proofs.read.read_script.Given as goal

-- the bytes are what the reader gave so far, and few enough
abbrev pub invariant-loop : goal.invariant-loop
invariant-loop g l = (vec_len l.bytes ≤ SCRIPT_LIMIT) × Consumes (g.R.Read.remaining l.fn.reader) (g.R.Read.remaining l.reader) l.bytes.items
