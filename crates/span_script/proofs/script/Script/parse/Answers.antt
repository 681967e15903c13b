use Rattle.std.proofs.Common.{◌∙◌, ap, map, rules}
use Rattle.span_script.specs.Fault.{IsScriptFault}
use Rattle.span_script.proofs.Wrong.{fault-at, no-line}
use Rattle.span_script.proofs.script.Script.parse.Goals as goal

-- the text at this place is wrong
pub returns-in_err-script-clause-fault : goal.returns-in_err-script-clause-fault
returns-in_err-script-clause-fault c =
    let wrong : IsScriptFault c.args.text.now c.in_err-script.field-0.0 =
    fault-at c.args.text.now c.deref-text-items.result.now c.loop-place.place _ c.loop-place.script c.in_err-script.field-0.0
    (ap (λ ts. map (λ t. t.now) ts) c.deref-text-items.ensures.value ∙ c.in_ok-texts.ensures) c.loop-place-test.true
    c.loop-place.invariant.0 c.loop-place.invariant.1 c.in_err-script.ensures.fault in
    search rules

-- every text was read, and none is a first line
pub returns-clause-fault : goal.returns-clause-fault
returns-clause-fault c = no-line c.args.text.now
    c.deref-text-items.result.now c.loop-place.place c.loop-place.script c.wrong.result c.ok_or.result c.wrong.ensures c.ok_or.ensures.value
    (ap (λ ts. map (λ t. t.now) ts) c.deref-text-items.ensures.value ∙ c.in_ok-texts.ensures) c.loop-place-test.false c.loop-place.invariant.1
