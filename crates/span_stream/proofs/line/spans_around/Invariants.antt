use Rattle.std.proofs.Common.{◌≡◌, ◌++◌, map}
use Rattle.serde_json.specs.View.{view}
use Rattle.span_registry.specs.References.{to_give_from_root}
use Rattle.span_stream.specs.Json.{reference_object}
use Rattle.span_stream.specs.Members.{members_kept}
use Rattle.span_stream.proofs.line.spans_around.Given as goal

-- what is made and what is left make the whole
abbrev pub invariant-loop-span : goal.invariant-loop-span
invariant-loop-span g l =
    map view l.objects.items ++ map (reference_object (members_kept l.members)) (to_give_from_root l.span-iterator)
    ≡ map (reference_object (members_kept l.members)) (to_give_from_root l.initial.span-iterator)
