use Rattle.span_core.specs.Span.{number_of}
use Rattle.span_format.proofs.Filled.{without_error}
use Rattle.span_format.proofs.Present.{fields_filled, none_noted, some_present}
use Rattle.span_format.specs.Kept.{kept_in}
use Rattle.span_format.proofs.kept.Kept.add.Goals as goal

pub returns-then-are_absent : goal.returns-then-are_absent
returns-then-are_absent c = record {
  added = none_noted c.args.layout (number_of c.args.id) c.args.values.now (kept_in c.args.self.now) (c.are_absent.ensures.0 c.if-are_absent.true);
  unchanged = tt;
  refused = tt;
}

pub returns-in_err-write_fields-clause-refused : goal.returns-in_err-write_fields-clause-refused
returns-in_err-write_fields-clause-refused c =
    without_error c.from_residual.result (fields_filled c.args.layout c.args.values.now (some_present c.are_absent.ensures c.if-are_absent.false))

pub returns-clause-refused : goal.returns-clause-refused
returns-clause-refused c =
    without_error c.append.result (fields_filled c.args.layout c.args.values.now (some_present c.are_absent.ensures c.if-are_absent.false))
