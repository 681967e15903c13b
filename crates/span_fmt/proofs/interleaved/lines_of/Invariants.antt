use Rattle.std.proofs.Common.{◌≡◌, ◌++◌, string_bytes}
use Rattle.std.specs.Prelude.{flat_map}
use Rattle.span_registry.specs.Context.{view_lent}
use Rattle.span_registry.specs.References.{to_give_from_root}
use Rattle.span_fmt.specs.Interleaved.{reference_text}
use Rattle.span_fmt.specs.Lane.{names_in}
use Rattle.span_fmt.proofs.interleaved.lines_of.Given as goal

-- what is written and what is left make the whole
abbrev pub invariant-loop-span : goal.invariant-loop-span
invariant-loop-span g l =
    let line = reference_text (names_in l.names) (view_lent g.S.LookupSpan.registry l.ctx) in
    string_bytes l.text ++ flat_map line (to_give_from_root l.span-iterator) ≡ flat_map line (to_give_from_root l.initial.span-iterator)
