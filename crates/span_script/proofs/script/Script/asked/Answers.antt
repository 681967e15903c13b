use Rattle.std.proofs.Common.{refl, subst, sym}
use Rattle.span_dispatch.specs.declared.request.Request.TheVariants.{Reload}
use Rattle.span_script.specs.Script.{lines_of, Asks}
use Rattle.span_script.specs.declared.line.Line.{Line}
use Rattle.span_script.proofs.script.Script.asked.Goals as goal

-- the setting says what the text does
pub returns-in_ok-directives-in-Targets-clause-request : goal.returns-in_ok-directives-in-Targets-clause-request
returns-in_ok-directives-in-Targets-clause-request c =
    subst (λ (l : Line). Asks (lines_of c.args.self.now) l (Reload c.in-Targets.number c.in_ok-directives-in-Targets.field-0)) (sym c.in-Targets.is)
    (refl, c.in_ok-directives-in-Targets.ensures.setting)
