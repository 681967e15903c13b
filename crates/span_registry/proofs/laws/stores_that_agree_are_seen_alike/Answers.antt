use Rattle.span_registry.proofs.Agreeing.{views_alike}
use Rattle.span_registry.proofs.laws.stores_that_agree_are_seen_alike.Goals as goal

pub returns : goal.returns
returns c = λ numbers mask s t lane. views_alike numbers mask s t lane
