use Rattle.std.proofs.Common.{◌≡◌, ◌++◌, take, string_bytes}
use Rattle.std.specs.Prelude.{flat_map}
use Rattle.span_script.specs.Printed.{labels_in, name_by, replies, section_in, section_text}
use Rattle.span_script.proofs.reply.text_of.Given as goal

-- all replies, and what the recorders so far kept
abbrev pub invariant-loop-section : goal.invariant-loop-section
invariant-loop-section l = string_bytes l.text ≡ replies (name_by (labels_in l.names)) l.lines l.answers
    ++ flat_map (λ one. section_text (name_by (labels_in l.names)) (section_in one)) (take l.section-index l.sections)
