use Rattle.std.proofs.Common.{◌≡◌, take, drop}
use Rattle.std.specs.List.{All, AllZip}
use Rattle.span_layers.proofs.list.put_in_use.Given as goal

abbrev pub invariant-loop-member : goal.invariant-loop-member
invariant-loop-member g l = record {
  usable : All g.L.Layer.usable l.members;
  used : AllZip g.L.Layer.registered (take l.member-index l.fn.members) (take l.member-index l.members);
  left : drop l.member-index l.members ≡ drop l.member-index l.fn.members;
}
