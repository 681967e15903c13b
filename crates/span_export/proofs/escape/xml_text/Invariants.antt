use Rattle.std.proofs.Common.{◌≡◌, flat_map, string_bytes}
use Rattle.span_export.specs.Escape.{xml_of}
use Rattle.span_export.proofs.escape.xml_text.Given as goal

-- the characters so far are written
abbrev pub invariant-loop-character : goal.invariant-loop-character
invariant-loop-character l = string_bytes l.new ≡ flat_map xml_of l.yielded
