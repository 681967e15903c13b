use Rattle.std.proofs.Common.{◌≡◌, ◌++◌, string_bytes}
use Rattle.span_registry.specs.References.{to_give}
use Rattle.span_examples.specs.Outline.{indent}
use Rattle.span_examples.proofs.outline.indentation.Given as goal

abbrev pub invariant-loop-span : goal.invariant-loop-span
invariant-loop-span g l =
    string_bytes l.spaces ++ indent (to_give g.S.LookupSpan.registry l._span-iterator) ≡ indent (to_give g.S.LookupSpan.registry l.initial._span-iterator)
