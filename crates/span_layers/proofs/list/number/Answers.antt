use Rattle.std.proofs.Common.{◌+◌, ◌<◌, ◌≤◌, length, get_or, set, take, arith, sym, subst}
use Rattle.std.proofs.lemmas.List.Elements.{All-set}
use Rattle.std.proofs.lemmas.List.{take_all, take_more_set}
use Rattle.span_layers.proofs.MemberLoops.{less_left, none_left, same_here, same_rest, zip_more}
use Rattle.span_layers.proofs.MembersNumbered.{TakesOn, all_numbered, filters_further, one_numbered}
use Rattle.span_layers.proofs.list.number.Goals as goal
use Rattle.span_layers.specs.Members.{ListForm}
use Rattle.span_layers.specs.Number.{numbered}

pub loop-member-preserved : goal.loop-member-preserved
loop-member-preserved g c =
    let h = c.loop-member.invariant in
    let all = c.args.members.now in
    let xs = c.loop-member.members in
    let i = c.loop-member.member-index in
    let d = c.member-item.result in
    let y = c.on_layer.new.self in
    let first = (g.S.LookupSpan.registry c.args.subscriber.now).filters in
    let now = (g.S.LookupSpan.registry c.loop-member.subscriber).filters in
    let then = (g.S.LookupSpan.registry c.on_layer.new.subscriber).filters in
    let within : c.loop-member.member-index < length c.loop-member.members = omega (arith, c.loop-member.auto.members, c.loop-member-test.true) in
    let in_all : c.loop-member.member-index < length c.args.members.now = omega (arith, c.loop-member.auto.members, c.loop-member-test.true) in
    let took = c.on_layer.ensures.numbers in
    record {
      usable = All-set g.L.Layer.usable xs i y c.on_layer.ensures.layer h.usable;
      subscriber = c.on_layer.ensures.subscriber;
      attached = zip_more all xs i h.left within g.L.Layer.attached d y in_all h.attached c.on_layer.ensures.attached;
      left = same_rest all xs i h.left within y;
      alone = filters_further g.S.LookupSpan.registry g.S.LookupSpan.with_registry g.met.S.LookupSpan.registry_with
          g.met.S.LookupSpan.with_twice c.args.subscriber.now c.loop-member.subscriber c.on_layer.new.subscriber h.alone took.alone;
      numbers =
          less_left g.L.Layer.has_form all (TakesOn g.L.Layer.has_form first now (take i xs)) all i
          (get_or xs i d) in_all (same_here all xs i h.left within d (get_or xs i d) in_all) (TakesOn g.L.Layer.has_form first then (take (i + 1) (set xs i y)))
          (λ f o r form before. subst (λ done. TakesOn g.L.Layer.has_form first then done f r) (sym (take_more_set xs i y within))
          (one_numbered g.L.Layer.has_form first now then (take i xs) y f o r (took.form o form) (took.next o form) before)) h.numbers;
    }

pub returns-clause-numbers : goal.returns-clause-numbers
returns-clause-numbers g c =
    let h = c.loop-member.invariant in
    let all = c.args.members.now in
    let xs = c.loop-member.members in
    let i = c.loop-member.member-index in
    let first = (g.S.LookupSpan.registry c.args.subscriber.now).filters in
    let now = (g.S.LookupSpan.registry c.loop-member.subscriber).filters in
    let end : length c.loop-member.members ≤ c.loop-member.member-index = omega (arith, c.loop-member.auto.members, c.loop-member-test.false) in
    let all_end : length c.args.members.now ≤ c.loop-member.member-index = omega (arith, c.loop-member.auto.members, c.loop-member-test.false) in
    record {
      alone = h.alone;
      form = none_left g.L.Layer.has_form all (TakesOn g.L.Layer.has_form first now (take i xs)) all i _ all_end
          (λ f k. subst (λ l. ListForm g.L.Layer.has_form l (numbered f first).0)
          (take_all i xs end) (all_numbered g.L.Layer.has_form first now (take i xs) f k)) h.numbers;
      next = none_left g.L.Layer.has_form all (TakesOn g.L.Layer.has_form first now (take i xs)) all i _ all_end (λ f k. sym k.next) h.numbers;
    }
