use Rattle.std.proofs.Common.{◌≡◌, take, drop}
use Rattle.std.specs.List.{All}
use Rattle.span_layers.proofs.MemberLoops.{Left}
use Rattle.span_layers.proofs.MembersNotified.{GoesOn}
use Rattle.span_registry.specs.Notice.{notice_of}
use Rattle.span_registry.specs.Context.{HandsOn, subscriber_lent}
use Rattle.span_layers.proofs.list.notify_all.Given as goal

abbrev pub invariant-loop-member : goal.invariant-loop-member
invariant-loop-member g l = record {
  usable : All g.L.Layer.usable l.members;
  subscriber : g.S.Subscriber.usable (subscriber_lent l.ctx);
  left : drop l.member-index l.members ≡ drop l.member-index l.fn.members;
  rest : HandsOn g.S.LookupSpan.registry l.fn.ctx l.ctx;
  goes : Left g.L.Layer.has_form l.fn.members (drop l.member-index l.fn.members)
      (GoesOn g.S.LookupSpan.registry g.S.LookupSpan.with_registry
      g.L.Layer.has_form g.L.Layer.stepped (notice_of l.notice) l.fn.ctx l.fn.members l.ctx (take l.member-index l.members) (drop l.member-index l.fn.members));
}
