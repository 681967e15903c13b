use Rattle.span_core.specs.Span.{number_of}
use Rattle.span_stream.proofs.Lined.{added_flat}
use Rattle.span_stream.specs.Members.{members_kept}
use Rattle.span_stream.proofs.json_form.JsonForm.note.Goals as goal

pub invariant_of-self : goal.invariant_of-self
invariant_of-self g c = record {
  flat = added_flat c.add.result (number_of c.args.id)
      c.args.values.now (members_kept c.args.self.now.members) (members_kept c.add.new.self) c.add.ensures.added c.add.ensures.unchanged c.args.self.now.flat;
}
