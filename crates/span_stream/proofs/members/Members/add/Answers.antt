use Rattle.std.proofs.Common.{refl, rules, subst}
use Rattle.std.specs.Prelude.{IsSome}
use Rattle.span_core.specs.Span.{number_of}
use Rattle.span_stream.proofs.Holding.{held_more, held_new, held_still}
use Rattle.span_stream.proofs.Present.{none_added, refused_with, some_present}
use Rattle.span_stream.specs.Members.{members_kept}
use Rattle.span_stream.proofs.members.Members.add.Goals as goal

pub returns-then-are_absent : goal.returns-then-are_absent
returns-then-are_absent c = record {
  added = none_added (number_of c.args.id) c.args.values.now (members_kept c.args.self.now) (c.are_absent.ensures.0 c.if-are_absent.true);
  unchanged = tt;
  refused = tt;
}

pub returns-in_err-waiting-clause-refused : goal.returns-in_err-waiting-clause-refused
returns-in_err-waiting-clause-refused c = refused_with c.from_residual.result c.are_absent.ensures c.if-are_absent.false

pub returns-in-Some-clause-refused : goal.returns-in-Some-clause-refused
returns-in-Some-clause-refused c = refused_with c.add.result c.are_absent.ensures c.if-are_absent.false

pub returns-clause-refused : goal.returns-clause-refused
returns-clause-refused c = some_present c.are_absent.ensures c.if-are_absent.false

pub returns-in-Some-clause-added : goal.returns-in-Some-clause-added
returns-in-Some-clause-added c =
    held_more c.args.self.now (record { kept = c.get_mut.follows.lender c.add.new.self }) (number_of c.args.id) c.into_u64.result c.in-Some.held.now
    c.add.new.self c.into_u64.ensures c.in-Some.ensures.value
    ((c.get_mut.follows.holds c.add.new.self).3 (subst IsSome c.in-Some.ensures.value refl)) c.add.result c.args.values.now c.in_ok-waiting.waiting.items
    c.in_ok-waiting.ensures c.add.ensures.added

pub returns-in-Some-clause-unchanged : goal.returns-in-Some-clause-unchanged
returns-in-Some-clause-unchanged c =
    held_still c.args.self.now (record { kept = c.get_mut.follows.lender c.add.new.self }) (number_of c.args.id) c.into_u64.result c.in-Some.held.now
    c.add.new.self c.into_u64.ensures c.in-Some.ensures.value
    ((c.get_mut.follows.holds c.add.new.self).3 (subst IsSome c.in-Some.ensures.value refl)) c.add.result c.add.ensures.unchanged

pub returns-in-Ok-clause-added : goal.returns-in-Ok-clause-added
returns-in-Ok-clause-added c =
    held_new c.args.self.now (record { kept = c.insert.new.self }) (number_of c.args.id) c.new.result c.args.values.now c.in_ok-waiting.waiting.items
    (search rules) (search rules) c.new.ensures c.in_ok-waiting.ensures
