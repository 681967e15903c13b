use Rattle.std.proofs.Common.{◌≡◌, ◌++◌, string_bytes}
use Rattle.std.specs.Prelude.{flat_map}
use Rattle.span_registry.specs.References.{to_give_from_root}
use Rattle.span_fmt.specs.Known.{known_in}
use Rattle.span_fmt.specs.Lines.{reference_label}
use Rattle.span_fmt.proofs.lines.spans_around.Given as goal

-- what is written and what is left make the whole
abbrev pub invariant-loop-span : goal.invariant-loop-span
invariant-loop-span g l =
    string_bytes l.text ++ flat_map (reference_label (known_in l.known)) (to_give_from_root l.span-iterator)
    ≡ flat_map (reference_label (known_in l.known)) (to_give_from_root l.initial.span-iterator)
