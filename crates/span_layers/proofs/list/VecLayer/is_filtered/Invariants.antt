use Rattle.std.proofs.Common.{drop}
use Rattle.span_layers.proofs.MemberLoops.{Left}
use Rattle.span_layers.proofs.MembersAsked.{MarksOn}
use Rattle.span_layers.proofs.list.VecLayer.is_filtered.Given as goal

abbrev pub invariant-loop-member : goal.invariant-loop-member
invariant-loop-member g l = Left g.L.Layer.has_form l.fn.self.items (drop l.member-index l.fn.self.items) MarksOn
