use Rattle.std.proofs.Common.{◌≡◌, ◌||◌, ◌<◌, ◌≤◌, length, get_or, set, arith, sym, ap, ◌∙◌}
use Rattle.std.proofs.lemmas.List.{set-get_or}
use Rattle.std.proofs.lemmas.List.Elements.{All-get_or, All-set}
use Rattle.span_layers.proofs.MemberLoops.{less_left, neither, none_left, one_more, none_more, same_here, same_rest, zip_all, zip_more}
use Rattle.span_layers.proofs.list.reload_each.Goals as goal
use Rattle.span_registry.specs.Reload.{takes_setting}

pub reload-one-requires : goal.reload-one-requires
reload-one-requires g c =
    let within : c.loop-member.member-index < length c.loop-member.members = omega (arith, c.loop-member.auto.members, c.loop-member-test.true) in
    All-get_or g.L.Layer.usable c.loop-member.members c.loop-member.member-index c.member-item.result within c.loop-member.invariant.usable

pub loop-member-preserved : goal.loop-member-preserved
loop-member-preserved g c =
    let h = c.loop-member.invariant in
    let all = c.args.members.now in
    let xs = c.loop-member.members in
    let i = c.loop-member.member-index in
    let d = c.member-item.result in
    let y = c.reload-one.new.self in
    let n = c.args.number in
    let l = c.args.setting in
    let within : c.loop-member.member-index < length c.loop-member.members = omega (arith, c.loop-member.auto.members, c.loop-member-test.true) in
    let in_all : c.loop-member.member-index < length c.args.members.now = omega (arith, c.loop-member.auto.members, c.loop-member-test.true) in
    record {
      usable = All-set g.L.Layer.usable xs i y c.reload-one.ensures.usable h.usable;
      reloaded = zip_more all xs i h.left within (λ a b. g.L.Layer.reloaded a n l b) d y in_all h.reloaded c.reload-one.ensures.reloaded;
      left = same_rest all xs i h.left within y;
      taken =
          less_left g.L.Layer.has_form all (λ f r. takes_setting f n l ≡ c.loop-member.taken || takes_setting r n l)
          all i (get_or xs i d) in_all (same_here all xs i h.left within d (get_or xs i d) in_all)
          (λ f r. takes_setting f n l ≡ c.either-taken.result || takes_setting r n l)
          (λ f o r form before. one_more (c.loop-member.taken) (takes_setting o n l) (takes_setting r n l)
          c.reload-one.result c.either-taken.result (takes_setting f n l) (c.reload-one.ensures.taken o form) c.either-taken.ensures before) h.taken;
      unchanged = λ e.
          let no = neither c.reload-one.result c.loop-member.taken (sym c.either-taken.ensures ∙ e) in
          ap (set xs i) (c.reload-one.ensures.unchanged no.0) ∙ set-get_or xs i d ∙ h.unchanged no.1;
    }

pub returns-clause-reloaded : goal.returns-clause-reloaded
returns-clause-reloaded g c =
    let end : length c.loop-member.members ≤ c.loop-member.member-index = omega (arith, c.loop-member.auto.members, c.loop-member-test.false) in
    let all : length c.args.members.now ≤ c.loop-member.member-index = omega (arith, c.loop-member.auto.members, c.loop-member-test.false) in
    zip_all (λ a b. g.L.Layer.reloaded a c.args.number c.args.setting b)
    c.args.members.now c.loop-member.members c.loop-member.member-index all end c.loop-member.invariant.reloaded

pub returns-clause-taken : goal.returns-clause-taken
returns-clause-taken g c =
    let h = c.loop-member.invariant in
    let all = c.args.members.now in
    let n = c.args.number in
    let l = c.args.setting in
    let all_end : length c.args.members.now ≤ c.loop-member.member-index = omega (arith, c.loop-member.auto.members, c.loop-member-test.false) in
    none_left g.L.Layer.has_form all (λ f r. takes_setting f n l ≡ c.loop-member.taken || takes_setting r n l)
    all c.loop-member.member-index
    (λ f. c.loop-member.taken ≡ takes_setting f n l) all_end (λ f k. none_more c.loop-member.taken (takes_setting f n l) k) h.taken
