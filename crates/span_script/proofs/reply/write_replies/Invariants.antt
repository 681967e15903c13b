use Rattle.std.proofs.Common.{◌≡◌, ◌++◌, string_bytes}
use Rattle.std.specs.Prelude.{flat_map}
use Rattle.span_script.specs.Printed.{labels_in, name_by, reply_text}
use Rattle.span_script.proofs.reply.write_replies.Given as goal

-- the replies so far
abbrev pub invariant-loop-line : goal.invariant-loop-line
invariant-loop-line l = string_bytes l.text ≡ string_bytes l.fn.text
    ++ flat_map (λ both. reply_text (name_by (labels_in l.names)) both.0.now both.1.now) l.yielded
