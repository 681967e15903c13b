use Rattle.std.proofs.Common.{[], ◌+◌, ◌<◌, ◌≤◌, length, get_or, set, take, drop, arith, refl, subst, sym}
use Rattle.std.proofs.lemmas.List.Elements.{All-set}
use Rattle.std.proofs.lemmas.List.{drop_all, take_all, take_more_set}
use Rattle.span_layers.proofs.MemberLoops.{here, less_left, none_left, same_here, same_rest, whole_left}
use Rattle.span_layers.proofs.MembersNotified.{GoesOn, all_notified, handed_further, handed_same, none_notified, one_notified}
use Rattle.span_layers.proofs.list.notify_all.Goals as goal
use Rattle.span_registry.specs.Notice.{notice_of}
use Rattle.span_registry.specs.Form.{Terminal, End, InList, Parts}

pub loop-member-init : goal.loop-member-init
loop-member-init g c =
    let all = c.args.members.now in
    record {
      usable = c.requires.usable.0;
      subscriber = c.requires.usable.1;
      left = refl;
      rest = handed_same g.S.LookupSpan.registry c.args.ctx.now;
      goes = whole_left g.L.Layer.has_form all _ (none_notified g.S.LookupSpan.registry
          g.S.LookupSpan.with_registry g.L.Layer.has_form g.L.Layer.stepped (notice_of c.args.notice) c.args.ctx.now all g.met.S.LookupSpan.with_own);
    }

pub loop-member-preserved : goal.loop-member-preserved
loop-member-preserved g c =
    let h = c.loop-member.invariant in
    let all = c.args.members.now in
    let xs = c.loop-member.members in
    let i = c.loop-member.member-index in
    let x = get_or c.loop-member.members c.loop-member.member-index c.member-item.result in
    let y = c.notify.new.self in
    let notified = c.notify.ensures in
    let goes = GoesOn g.S.LookupSpan.registry
    g.S.LookupSpan.with_registry g.L.Layer.has_form g.L.Layer.stepped (notice_of c.args.notice) c.args.ctx.now c.args.members.now in
    let within : c.loop-member.member-index < length c.loop-member.members = omega (arith, c.loop-member.auto.members, c.loop-member-test.true) in
    let in_all : c.loop-member.member-index < length c.args.members.now = omega (arith, c.loop-member.auto.members, c.loop-member-test.true) in
    let is = same_here all xs i h.left within c.member-item.result x in_all in
    record {
      usable = All-set g.L.Layer.usable xs i y notified.usable.0 h.usable;
      subscriber = notified.usable.1;
      left = same_rest all xs i h.left within y;
      rest = handed_further g.S.LookupSpan.registry c.args.ctx.now c.loop-member.ctx c.notify.new.ctx h.rest notified.rest;
      goes =
          less_left g.L.Layer.has_form
          all (goes c.loop-member.ctx (take i xs) (drop i all)) all i x in_all is (goes c.notify.new.ctx (take (i + 1) (set xs i y)) (drop (i + 1) all))
          (λ f o r form before.
          subst (λ done. goes c.notify.new.ctx done (drop (i + 1) all) f r) (sym (take_more_set xs i y within))
          (one_notified g.S.LookupSpan.registry
          g.S.LookupSpan.with_registry g.L.Layer.has_form g.L.Layer.stepped (notice_of c.args.notice) c.args.ctx.now all g.met.S.LookupSpan.with_twice
          c.loop-member.ctx c.notify.new.ctx (take i xs) (drop (i + 1) all) x y f o r form h.rest notified.rest notified.alone notified.hook
          (subst (λ left. goes c.loop-member.ctx (take i xs) left f (Parts InList o r)) (here all i x in_all is) before))) h.goes;
    }

pub returns-clause-alone : goal.returns-clause-alone
returns-clause-alone g c =
    let all_end : length c.args.members.now ≤ c.loop-member.member-index = omega (arith, c.loop-member.auto.members, c.loop-member-test.false) in
    none_left g.L.Layer.has_form
    c.args.members.now _ c.args.members.now c.loop-member.member-index _ all_end (λ f k still. (k.alone still).0) c.loop-member.invariant.goes

pub returns-clause-hook : goal.returns-clause-hook
returns-clause-hook g c =
    let all = c.args.members.now in
    let xs = c.loop-member.members in
    let i = c.loop-member.member-index in
    let goes = GoesOn g.S.LookupSpan.registry
    g.S.LookupSpan.with_registry g.L.Layer.has_form g.L.Layer.stepped (notice_of c.args.notice) c.args.ctx.now c.args.members.now c.loop-member.ctx in
    let end : length c.loop-member.members ≤ c.loop-member.member-index = omega (arith, c.loop-member.auto.members, c.loop-member-test.false) in
    let all_end : length c.args.members.now ≤ c.loop-member.member-index = omega (arith, c.loop-member.auto.members, c.loop-member-test.false) in
    none_left g.L.Layer.has_form all (goes (take i xs) (drop i all)) all i _ all_end
    (λ f k.
    all_notified g.S.LookupSpan.registry
    g.S.LookupSpan.with_registry g.L.Layer.has_form g.L.Layer.stepped (notice_of c.args.notice) c.args.ctx.now all c.loop-member.ctx xs f
    (subst (λ done. goes done [] f (Terminal End)) (take_all i xs end) (subst (λ left. goes (take i xs) left f (Terminal End)) (drop_all i all all_end) k)))
    c.loop-member.invariant.goes
