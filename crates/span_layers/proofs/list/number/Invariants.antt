use Rattle.std.proofs.Common.{◌≡◌, take, drop}
use Rattle.std.specs.List.{All, AllZip}
use Rattle.span_layers.proofs.MemberLoops.{Left}
use Rattle.span_layers.proofs.MembersNumbered.{TakesOn}
use Rattle.span_layers.proofs.list.number.Given as goal

abbrev pub invariant-loop-member : goal.invariant-loop-member
invariant-loop-member g l = record {
  usable : All g.L.Layer.usable l.members;
  subscriber : g.S.Subscriber.usable l.subscriber;
  attached : AllZip g.L.Layer.attached (take l.member-index l.fn.members) (take l.member-index l.members);
  left : drop l.member-index l.members ≡ drop l.member-index l.fn.members;
  alone : l.subscriber ≡ g.S.LookupSpan.with_registry l.fn.subscriber
      (record (g.S.LookupSpan.registry l.fn.subscriber) { filters = (g.S.LookupSpan.registry l.subscriber).filters });
  numbers : Left g.L.Layer.has_form l.fn.members (drop l.member-index l.fn.members)
      (TakesOn g.L.Layer.has_form
      (g.S.LookupSpan.registry l.fn.subscriber).filters (g.S.LookupSpan.registry l.subscriber).filters (take l.member-index l.members));
}
