use Rattle.std.proofs.Common.{◌≡◌, drop}
use Rattle.serde_json.specs.Data.{no_members}
use Rattle.serde_json.specs.View.{members_view}
use Rattle.span_export.specs.Chrome.{with_fields}
use Rattle.span_export.specs.Site.{given_said}
use Rattle.span_export.proofs.chrome.args.Given as goal

-- the fields to come make the members so far the whole
abbrev pub invariant-loop-field : goal.invariant-loop-field
invariant-loop-field l =
    with_fields (given_said (drop l.field-index l.given)) (members_view l.members.entries) ≡ with_fields (given_said l.given) no_members
