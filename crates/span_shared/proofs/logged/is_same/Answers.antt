use Rattle.std.proofs.Common.{ap, ◌∙◌}
use Rattle.span_shared.proofs.logged.is_same.Goals as goal

pub returns-clause-itself : goal.returns-clause-itself
returns-clause-itself g c = λ same. c.eq.ensures ∙ ap (λ x. g.T.PartialEq.eq x c.args.b.now) same ∙ g.met.T.Eq.laws.refl c.args.b.now
