use Rattle.std.proofs.Common.{refl, sym, subst, arith}
use Rattle.std.proofs.lemmas.Result.{err_from_is_err_and}
use Rattle.span_store.specs.private.StoreRepr.{GrowsEmpty}
use Rattle.span_store.proofs.Stored.{grown_longer, grown_none, grown_more}
use Rattle.span_store.proofs.span_store.reach.Goals as goal

pub loop-alloc-init : goal.loop-alloc-init
loop-alloc-init c = grown_none c.args.extensions.now.items

pub loop-alloc-preserved : goal.loop-alloc-preserved
loop-alloc-preserved c = subst (GrowsEmpty c.args.extensions.now.items)
    (sym c.in_ok-push.ensures.items) (grown_more c.args.extensions.now.items c.loop-alloc.extensions.items c.new.result c.new.ensures c.loop-alloc.invariant)

pub returns-in_err-push-clause-memory : goal.returns-in_err-push-clause-memory
returns-in_err-push-clause-memory c =
    let p = err_from_is_err_and c.from_residual.result c.from_residual.ensures.1 in
    let longer = grown_longer c.args.extensions.now.items c.loop-alloc.extensions.items c.loop-alloc.invariant in
    rw (p.1, p.2) (refl, let test = c.loop-alloc-test.true in let n = c.len.ensures in omega arith)
