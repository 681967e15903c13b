use Rattle.std.proofs.Common.{refl, subst, ap, ◌∙◌, ◌++◌}
use Rattle.span_fmt.specs.Text.{fields_text}
use Rattle.std.specs.Prelude.{IsSome}
use Rattle.span_core.specs.Span.{number_of}
use Rattle.span_fmt.proofs.Filled.{without_error}
use Rattle.span_fmt.proofs.Present.{fields_filled, grown, kept, none_noted, some_present}
use Rattle.span_fmt.specs.Known.{known_in}
use Rattle.span_fmt.proofs.known.Known.add.Goals as goal

pub returns-then-are_absent : goal.returns-then-are_absent
returns-then-are_absent c = record {
  added = none_noted (number_of c.args.id) c.args.values.now (known_in c.args.self.now) (c.are_absent.ensures.0 c.if-are_absent.true);
  unchanged = tt;
  refused = tt;
}

pub returns-in_err-write_fields-clause-refused : goal.returns-in_err-write_fields-clause-refused
returns-in_err-write_fields-clause-refused c =
    without_error c.from_residual.result (fields_filled c.args.values.now (some_present c.are_absent.ensures c.if-are_absent.false))

pub returns-in-Some-clause-added : goal.returns-in-Some-clause-added
returns-in-Some-clause-added c =
    grown c.args.self.now (record { texts = c.get_mut.follows.lender c.push_str.new.self }) (number_of c.args.id) c.into_u64.result c.in-Some.text.now
    c.push_str.new.self c.deref.result.now c.into_u64.ensures c.in-Some.ensures.value
    ((c.get_mut.follows.holds c.push_str.new.self).3 (subst IsSome c.in-Some.ensures.value refl)) c.push_str.result c.args.values.now c.push_str.ensures.bytes
    (c.deref.ensures ∙ c.in_ok-write_fields.ensures ∙ ap (λ b. b ++ fields_text c.args.values.now) c.new-added.ensures.bytes)

pub returns-in-Some-clause-unchanged : goal.returns-in-Some-clause-unchanged
returns-in-Some-clause-unchanged c =
    kept c.args.self.now (record { texts = c.get_mut.follows.lender c.push_str.new.self }) (number_of c.args.id) c.into_u64.result c.in-Some.text.now
    c.push_str.new.self c.deref.result.now c.into_u64.ensures c.in-Some.ensures.value
    ((c.get_mut.follows.holds c.push_str.new.self).3 (subst IsSome c.in-Some.ensures.value refl)) c.push_str.result c.push_str.ensures.bytes

pub returns-in-Some-clause-refused : goal.returns-in-Some-clause-refused
returns-in-Some-clause-refused c =
    without_error c.push_str.result (fields_filled c.args.values.now (some_present c.are_absent.ensures c.if-are_absent.false))

pub returns-clause-refused : goal.returns-clause-refused
returns-clause-refused c = fields_filled c.args.values.now (some_present c.are_absent.ensures c.if-are_absent.false)
