use Rattle.span_times.proofs.CallerLemmas.{keeps_told}
use Rattle.span_times.proofs.laws.a_timeline_keeps_what_it_is_told.Goals as goal

pub returns : goal.returns
returns g c = keeps_told g.C.Now.latest g.C.Now.gives
