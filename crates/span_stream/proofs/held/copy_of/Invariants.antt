use Rattle.std.proofs.Common.{◌≡◌, List, ◌++◌}
use Rattle.serde_json.proofs.Views.{Entry}
use Rattle.serde_json.specs.View.{members_view}
use Rattle.span_stream.proofs.held.copy_of.Given as goal

-- the members so far are copied
abbrev pub invariant-loop-name : goal.invariant-loop-name
invariant-loop-name l =
    (done : List Entry) × (l.settled.entries ≡ done ++ l.name-iterator) × (members_view l.members.entries ≡ members_view done)
