use Rattle.std.proofs.Common.{◌≡◌, drop, map}
use Rattle.httparse.specs.Spans.{header_bytes}
use Rattle.span_sender.specs.Reply.{value_named}
use Rattle.span_sender.proofs.head.value_named.Given as goal

-- no field that was looked at has the name
abbrev pub invariant-loop-field : goal.invariant-loop-field
invariant-loop-field l =
    value_named l.name (map (header_bytes l.bytes) (drop l.field-index l.fields))
    ≡ value_named l.name (map (header_bytes l.bytes) l.fields)
