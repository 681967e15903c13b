use Rattle.std.proofs.Common.{ap, not, sym, ◌∙◌}
use Rattle.span_registry.proofs.Masks.{enabled_unrefused, no_word}
use Rattle.span_registry.proofs.context.ContextMut.refuses.Goals as goal

pub returns-then-word-eq0-clause-refused : goal.returns-then-word-eq0-clause-refused
returns-then-word-eq0-clause-refused g c =
    let empty = no_word c.args.self.now.refused c.word.result c.word.ensures c.if-word-eq0.true in
    c.is_unattached.ensures ∙ sym (ap not (enabled_unrefused c.args.self.now.refused c.args.filter empty))

pub returns-clause-unrefused : goal.returns-clause-unrefused
returns-clause-unrefused g c h = ap not (c.is_enabled.ensures ∙ enabled_unrefused c.args.self.now.refused c.args.filter h)
