use Rattle.span_boxed.proofs.FilterLemmas.{law_kept}
use Rattle.span_boxed.proofs.filter.AnyDynFilter.dyn_notify.Goals as goal

pub returns-clause-keeps : goal.returns-clause-keeps
returns-clause-keeps g c = law_kept g.met.F.Filter.laws _ _ _ _ _ _ _ c.notify.ensures.hook
