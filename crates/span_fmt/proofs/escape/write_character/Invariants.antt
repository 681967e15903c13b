use Rattle.std.proofs.Common.{◌≡◌, ◌≤◌, ◌++◌, string_bytes}
use Rattle.std.specs.Char.Escape.{escape_default}
use Rattle.std.specs.Char.Iter.{escape_end, escape_rest}
use Rattle.std.specs.Str.{encode_utf8_all}
use Rattle.span_fmt.proofs.escape.write_character.Given as goal

-- what is written and what is left make the whole
abbrev pub invariant-loop-part : goal.invariant-loop-part
invariant-loop-part l = record {
  bound : escape_end l.part-iterator ≤ 10;
  whole : string_bytes l.text ++ encode_utf8_all (escape_rest l.part-iterator)
      ≡ string_bytes l.fn.text ++ encode_utf8_all (escape_default l.fn.character);
}
