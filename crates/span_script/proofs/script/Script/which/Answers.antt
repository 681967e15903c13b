use Rattle.std.proofs.Common.{sym, subst}
use Rattle.span_script.specs.Script.{lines_of, Means}
use Rattle.span_script.specs.declared.line.Name.{Name}
use Rattle.span_dispatch.specs.declared.request.Which.TheVariants.{Made}
use Rattle.span_script.proofs.script.Script.which.Goals as goal

-- the place of a label is that of the line that declares it
pub returns-in-Some-clause-span : goal.returns-in-Some-clause-span
returns-in-Some-clause-span c =
    let found = c.requires.found c.in-Label.label.now in
    let place = c.in-Some.ensures.value in
    subst (λ (n : Name). Means (lines_of c.args.self.now) n (Made c.in-Some.made.now)) (sym c.in-Label.is) (rw (← place) at found)
