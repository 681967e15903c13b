use Rattle.span_shared.proofs.Legal.{leaves_once}
use Rattle.span_shared.specs.Journal.{bare}
use Rattle.span_store.specs.Store.{empty_store}
use Rattle.span_shared.proofs.laws.one_journal_leaves_one_store.Goals as goal

pub returns : goal.returns
returns c = λ journal s t a b. leaves_once c.closes_once.ensures journal empty_store (bare s) (bare t) a b
