use Rattle.std.proofs.Common.{◌∙◌, ap}
use Rattle.serde_json.proofs.Views.{members_view-insert_entry}
use Rattle.serde_json.specs.View.{members_view}
use Rattle.span_stream.proofs.held.move_one.Goals as goal

pub returns-in-Ok-clause-moved : goal.returns-in-Ok-clause-moved
returns-in-Ok-clause-moved c = ap members_view c.in-Ok.ensures.entries ∙ members_view-insert_entry c.args.settled.now.entries c.args.name c.args.value
