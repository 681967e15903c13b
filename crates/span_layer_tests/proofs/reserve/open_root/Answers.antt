use Rattle.std.proofs.Common.{IfErr, subst}
use Rattle.span_core.specs.declared.span.Parent.{Parent}
use Rattle.span_store.specs.Step.{RefusesNew}
use Rattle.span_layer_tests.proofs.Reserved.{opens}
use Rattle.span_layer_tests.proofs.reserve.open_root.Goals as goal

pub returns : goal.returns
returns c = opens c.args.registry.now _ c.new_span.result
    (subst (λ (asked : Parent). IfErr c.new_span.result (RefusesNew c.args.registry.now _ asked)) c.new_root-root.ensures.parent c.new_span.ensures.refused)
