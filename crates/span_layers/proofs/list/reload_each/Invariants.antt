use Rattle.std.proofs.Common.{◌≡◌, ◌||◌, false, take, drop}
use Rattle.std.specs.List.{All, AllZip}
use Rattle.span_layers.proofs.MemberLoops.{Left}
use Rattle.span_layers.proofs.list.reload_each.Given as goal
use Rattle.span_registry.specs.Reload.{takes_setting}

abbrev pub invariant-loop-member : goal.invariant-loop-member
invariant-loop-member g l = record {
  usable : All g.L.Layer.usable l.members;
  reloaded : AllZip (λ x y. g.L.Layer.reloaded x l.fn.number l.fn.setting y) (take l.member-index l.fn.members) (take l.member-index l.members);
  left : drop l.member-index l.members ≡ drop l.member-index l.fn.members;
  taken : Left g.L.Layer.has_form
      l.fn.members (drop l.member-index l.fn.members) (λ f r. takes_setting f l.fn.number l.fn.setting ≡ l.taken || takes_setting r l.fn.number l.fn.setting);
  unchanged : l.taken ≡ false → l.members ≡ l.fn.members;
}
