use Rattle.span_boxed.proofs.FilterLemmas.{reload_law_kept}
use Rattle.span_boxed.proofs.filter.AnyDynFilter.dyn_reload.Goals as goal

pub returns-clause-keeps : goal.returns-clause-keeps
returns-clause-keeps g c = reload_law_kept g.met.F.Filter.laws g.met.F.Filter.reloads _ _ _ c.reload.ensures.reloaded
