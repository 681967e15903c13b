use Rattle.std.proofs.Common.{◌<◌, ◌≤◌, length, arith}
use Rattle.std.proofs.lemmas.List.Elements.{All-get_or, All-set}
use Rattle.span_layers.proofs.MemberLoops.{same_rest, zip_all, zip_more}
use Rattle.span_layers.proofs.list.put_in_use.Goals as goal

pub on_register_dispatch-requires : goal.on_register_dispatch-requires
on_register_dispatch-requires g c =
    let within : c.loop-member.member-index < length c.loop-member.members = omega (arith, c.loop-member.auto.members, c.loop-member-test.true) in
    All-get_or g.L.Layer.usable c.loop-member.members c.loop-member.member-index c.member-item.result within c.loop-member.invariant.usable

pub loop-member-preserved : goal.loop-member-preserved
loop-member-preserved g c =
    let h = c.loop-member.invariant in
    let xs = c.loop-member.members in
    let i = c.loop-member.member-index in
    let y = c.on_register_dispatch.new.self in
    let within : c.loop-member.member-index < length c.loop-member.members = omega (arith, c.loop-member.auto.members, c.loop-member-test.true) in
    let in_all : c.loop-member.member-index < length c.args.members.now = omega (arith, c.loop-member.auto.members, c.loop-member-test.true) in
    record {
      usable = All-set g.L.Layer.usable xs i y c.on_register_dispatch.ensures.usable h.usable;
      used = zip_more c.args.members.now xs i h.left within g.L.Layer.registered c.member-item.result y in_all h.used c.on_register_dispatch.ensures.registered;
      left = same_rest c.args.members.now xs i h.left within y;
    }

pub returns-clause-registered : goal.returns-clause-registered
returns-clause-registered g c =
    let end : length c.loop-member.members ≤ c.loop-member.member-index = omega (arith, c.loop-member.auto.members, c.loop-member-test.false) in
    let all : length c.args.members.now ≤ c.loop-member.member-index = omega (arith, c.loop-member.auto.members, c.loop-member-test.false) in
    zip_all g.L.Layer.registered c.args.members.now c.loop-member.members c.loop-member.member-index all end c.loop-member.invariant.used
