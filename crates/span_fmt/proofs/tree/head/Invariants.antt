use Rattle.std.proofs.Common.{◌≡◌, ◌++◌, string_bytes}
use Rattle.span_registry.specs.References.{to_give}
use Rattle.span_fmt.specs.Lane.{names_in}
use Rattle.span_fmt.specs.Text.{head_text, indent}
use Rattle.span_fmt.proofs.tree.head.Given as goal

-- what is written and what is left make the whole
abbrev pub invariant-loop-span : goal.invariant-loop-span
invariant-loop-span g l =
    string_bytes l.line ++ indent (to_give g.S.LookupSpan.registry l._span-iterator)
    ≡ head_text (names_in l.fn.names) l.fn.lane.0 (to_give g.S.LookupSpan.registry l.initial._span-iterator)
