use Rattle.std.proofs.Common.{◌≡◌, ◌++◌, take, string_bytes}
use Rattle.std.specs.Prelude.{flat_map, codes}
use Rattle.span_script.specs.Printed.{labels_in, line_of, name_by, notice_text}
use Rattle.span_script.proofs.reply.write_section.Given as goal

-- the recorder's head, and the notices so far
abbrev pub invariant-loop-notice : goal.invariant-loop-notice
invariant-loop-notice l = string_bytes l.text ≡ (string_bytes l.fn.text ++ codes "== " ++ line_of l.section.name.now)
    ++ flat_map (notice_text (name_by (labels_in l.names))) (take l.notice-index l.notice-items)
