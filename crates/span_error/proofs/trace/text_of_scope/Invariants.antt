use Rattle.std.proofs.Common.{◌≡◌, ◌++◌, string_bytes}
use Rattle.span_registry.specs.References.{to_give}
use Rattle.span_error.proofs.Keeping.{text_place}
use Rattle.span_error.specs.Trace.{lines_from, trace_text}
use Rattle.span_error.proofs.trace.text_of_scope.Given as goal

-- what is written and the lines of what is left make the whole
abbrev pub invariant-loop-span : goal.invariant-loop-span
invariant-loop-span g l =
    let registry = g.S.LookupSpan.registry in
    string_bytes l.text ++ lines_from text_place l.number (to_give registry l.span-iterator) ≡ trace_text text_place (to_give registry l.initial.span-iterator)
