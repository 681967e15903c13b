use Rattle.std.proofs.Common.{sym, ◌∙◌}
use Rattle.span_stacks.proofs.FilterNumber.{takes_itself, takes_under}
use Rattle.span_stacks.proofs.filtered.FilteredLayer.reload.Goals as goal

pub returns-then-contains-clause-taken : goal.returns-then-contains-clause-taken
returns-then-contains-clause-taken g c =
    takes_itself c.args.self.now.id (g.F.Filter.has_answers c.args.self.now.filter) (g.L.Layer.has_form c.args.self.now.layer)
    c.args.number c.args.setting c.reload.result (sym c.contains.ensures ∙ c.if-contains.true) c.reload.ensures.taken

pub returns-clause-taken : goal.returns-clause-taken
returns-clause-taken g c = takes_under c.args.self.now.id (g.F.Filter.has_answers c.args.self.now.filter) (g.L.Layer.has_form c.args.self.now.layer)
    c.args.number c.args.setting c.reload-2.result (sym c.contains.ensures ∙ c.if-contains.false) c.reload-2.ensures.taken
