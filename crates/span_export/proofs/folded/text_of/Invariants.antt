use Rattle.std.proofs.Common.{◌≡◌, ◌++◌, codes, drop, flat_map, map, string_bytes}
use Rattle.span_core.specs.Span.{number_of}
use Rattle.span_export.specs.Folded.{stack_frame, stack_text}
use Rattle.span_export.specs.Site.{named_by}
use Rattle.span_export.proofs.folded.text_of.Given as goal

-- what is written and what is left make the whole
abbrev pub invariant-loop-span : goal.invariant-loop-span
invariant-loop-span l =
    string_bytes l.text ++ flat_map (λ n. codes ";" ++ n) (map (λ x. stack_frame (named_by l.spans x)) (drop l.span-index (map number_of l.rest)))
    ≡ stack_text (named_by l.spans) (map number_of l.stack)
