use Rattle.std.proofs.Common.{◌∙◌, sym, ap}
use Rattle.std.proofs.lemmas.Map.Steps.{set_value_same}
use Rattle.std.specs.Map.{set_value}
use Rattle.std.specs.Prelude.{nat_eq}
use Rattle.span_store.proofs.States.{on_err_map}
use Rattle.span_store.proofs.lane.reserve_on.Goals as goal

pub returns-in-Some-clause-unchanged : goal.returns-in-Some-clause-unchanged
returns-in-Some-clause-unchanged c =
    let es = c.args.stacks.now.entries in
    on_err_map c.reserve.result c.reserve.ensures.unchanged (λ same. (c.get_mut.follows.holds c.reserve.new.self).0
    ∙ ap (set_value (nat_eq c.args.lane.0) es) same
    ∙ set_value_same (nat_eq c.args.lane.0) es c.in-Some.stack.now (sym c.in-Some.ensures.value))
