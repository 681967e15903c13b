use Rattle.std.proofs.Common.{◌∙◌, ◌++◌, ◌∷◌, [], ap, refl, rules}
use Rattle.span_script.specs.Fault.{Blames, IsLineFaultAt}
use Rattle.span_script.specs.Script.{lines_of, texts_in}
use Rattle.span_script.proofs.Growing.{IsScript-add}
use Rattle.span_script.proofs.Labels.{taken-fault}
use Rattle.span_script.proofs.script.Script.add.Goals as goal

pub returns-in_err-declare-clause-fault : goal.returns-in_err-declare-clause-fault
returns-in_err-declare-clause-fault c =
    let wrong : Blames c.args.number (IsLineFaultAt (lines_of c.args.self.now) c.args.line (texts_in c.args.words.now)) c.in_err-declare.field-0.0 =
    taken-fault c.args.number (lines_of c.args.self.now)
    c.args.line (texts_in c.args.words.now) c.in-Ok.request c.in-Ok.ensures.request c.in_err-declare.field-0.0 c.in_err-declare.ensures.fault in
    search rules

pub returns-clause-script : goal.returns-clause-script
returns-clause-script c =
    IsScript-add c.args.self.now
    c.declare.new.self _ c.args.line c.in-Ok.request c.requires.script c.requires.line c.in-Ok.ensures.request c.in_ok-declare.ensures.labels
    (c.in_ok-push.ensures.items ∙ ap (λ lines. lines.items ++ c.args.line ∷ []) c.declare.ensures.lines)
    (c.in_ok-push-2.ensures.items ∙ ap (λ requests. requests.items ++ c.in-Ok.request ∷ []) c.declare.ensures.requests)
    refl
