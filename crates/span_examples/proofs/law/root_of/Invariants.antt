use Rattle.std.proofs.Common.{◌≡◌, None}
use Rattle.std.specs.List.{last_or}
use Rattle.std.specs.Option.{option_map}
use Rattle.span_core.specs.Span.{number_of}
use Rattle.span_registry.specs.References.{to_give}
use Rattle.span_examples.proofs.Parents.{ids}
use Rattle.span_examples.proofs.law.root_of.Given as goal

abbrev pub invariant-loop-span : goal.invariant-loop-span
invariant-loop-span l =
    last_or (option_map number_of l.root) (ids (to_give (λ s. s) l.span-iterator)) ≡ last_or None (ids (to_give (λ s. s) l.initial.span-iterator))
