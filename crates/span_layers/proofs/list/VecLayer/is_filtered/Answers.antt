use Rattle.std.proofs.Common.{◌≤◌, ◌==◌, not, length, arith, ap, ◌∙◌}
use Rattle.span_layers.proofs.MemberLoops.{none_left}
use Rattle.span_layers.proofs.MembersAsked.{MarksOn, all_are_marked}
use Rattle.span_registry.specs.Form.{Terminal, End}
use Rattle.span_layers.proofs.list.VecLayer.is_filtered.Goals as goal

pub returns : goal.returns
returns g c f form =
    let xs = c.args.self.now.items in
    let all : length c.args.self.now.items ≤ c.loop-member.member-index =
    omega (arith, ap length c.deref-member-items.ensures.value, c.loop-member-test.false) in
    let marks =
    none_left g.L.Layer.has_form xs MarksOn xs c.loop-member.member-index (λ k. MarksOn k (Terminal End)) all (λ k h. h) c.loop-member.invariant f form in
    ap not (c.is_empty.ensures ∙ ap (λ l. length l == 0) c.as_slice.ensures.value) ∙ all_are_marked g.L.Layer.has_form xs f form marks
