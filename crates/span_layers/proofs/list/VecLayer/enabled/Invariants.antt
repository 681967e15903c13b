use Rattle.std.proofs.Common.{drop}
use Rattle.span_layers.proofs.MemberLoops.{Left}
use Rattle.span_layers.proofs.MembersAsked.{AsksOn}
use Rattle.span_registry.specs.Context.{filters_in, lane_in, store_in}
use Rattle.span_registry.specs.Question.{asked}
use Rattle.span_layers.proofs.list.VecLayer.enabled.Given as goal

abbrev pub invariant-loop-member : goal.invariant-loop-member
invariant-loop-member g l = Left g.L.Layer.has_form l.fn.self.items (drop l.member-index l.fn.self.items)
    (AsksOn (λ f. asked f l.meta (store_in g.S.LookupSpan.registry l.ctx) (lane_in l.ctx).0 (filters_in l.ctx)) l.fn.pass l.pass)
