use Rattle.std.proofs.Common.{◌∙◌, ap, sym}
use Rattle.std.proofs.lemmas.Result.{IfOk-weaker}
use Rattle.span_error.proofs.Around.{around_found, none_around}
use Rattle.span_error.proofs.Keeping.{text_place}
use Rattle.span_error.specs.Trace.{trace_text}
use Rattle.span_error.proofs.trace.text_around.Goals as goal

pub returns-in-Some : goal.returns-in-Some
returns-in-Some g c =
    let found = around_found g.S.LookupSpan.registry c.new.result c.args.stack.now c.args.lane c.new.ensures c.in-Some.innermost c.in-Some.ensures in
    IfOk-weaker c.text_of_scope.result _ _ (λ text h. h ∙ ap (trace_text text_place) (c.scope.ensures ∙ found)) c.text_of_scope.ensures

pub returns-in-None : goal.returns-in-None
returns-in-None g c =
    let none = none_around g.S.LookupSpan.registry c.new.result c.args.stack.now c.args.lane c.new.ensures c.in-None.ensures in
    c.new-in-None.ensures.bytes ∙ sym (ap (trace_text text_place) none)
