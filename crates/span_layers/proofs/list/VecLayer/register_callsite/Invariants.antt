use Rattle.std.proofs.Common.{ℕ, drop}
use Rattle.span_layers.proofs.MemberLoops.{Left}
use Rattle.span_layers.proofs.MembersAsked.{SumsOn}
use Rattle.span_layers.proofs.list.VecLayer.register_callsite.Given as goal

abbrev pub invariant-loop-member : goal.invariant-loop-member
invariant-loop-member g l =
    (filters : ℕ) → Left g.L.Layer.has_form l.fn.self.items (drop l.member-index l.fn.self.items) (SumsOn l.meta filters l.fn.pass l.highest l.pass)
