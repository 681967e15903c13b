use Rattle.std.proofs.Common.{◌≡◌, ◌++◌, string_bytes}
use Rattle.std.specs.Prelude.{flat_map}
use Rattle.span_registry.specs.References.{to_give}
use Rattle.span_format.specs.Kept.{kept_in}
use Rattle.span_format.specs.Part.{reference_part}
use Rattle.span_format.proofs.part.write_outwards.Given as goal

-- what is written and what is left make the whole
abbrev pub invariant-loop-span : goal.invariant-loop-span
invariant-loop-span g l =
    let registry = g.S.LookupSpan.registry in
    string_bytes l.text ++ flat_map (reference_part l.part (kept_in l.kept)) (to_give registry l.span-iterator)
    ≡ string_bytes l.fn.text ++ flat_map (reference_part l.part (kept_in l.kept)) (to_give registry l.initial.span-iterator)
