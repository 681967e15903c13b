use Rattle.std.proofs.Common.{sym, subst, ◌∙◌}
use Rattle.span_core.specs.declared.error.TraceError.{TraceError}
use Rattle.span_extensions.specs.Extensions.{RefusesReplace}
use Rattle.span_extensions.proofs.Tabled.{none_under, untabled}
use Rattle.span_extensions.proofs.extensions.ExtensionMap.replace.Goals as goal

pub returns-in-Err-clause-refused : goal.returns-in-Err-clause-refused
returns-in-Err-clause-refused g c =
    let place = g.T.ExtensionValue.place in
    let none = none_under place g.met.T.ExtensionValue.begins_empty
    c.args.self.now c.args.tag (untabled c.self.inside.tables c.args.self.now c.self.view_is (sym c.take.ensures.value ∙ c.in-Err.ensures.absent)) in
    subst (λ (e : TraceError). RefusesReplace place c.args.self.now c.args.tag e) (sym c.in-Err.ensures.memory) none
