use Rattle.span_promises.proofs.One.{answers_one}
use Rattle.span_promises.proofs.laws.answers_are_one.Goals as goal

pub returns : goal.returns
returns g c = answers_one c.closes_once.ensures
