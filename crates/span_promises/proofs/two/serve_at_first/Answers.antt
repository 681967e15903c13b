use Rattle.std.proofs.Common.{subst, sym}
use Rattle.span_stacks.specs.Filtered.{IsUnnumbered}
use Rattle.span_promises.specs.Two.{One}
use Rattle.span_promises.proofs.Stack.{finds_room, in_use, put_on}
use Rattle.span_promises.proofs.two.serve_at_first.Goals as goal

pub returns-in-Err-clause-memory : goal.returns-in-Err-clause-memory
returns-in-Err-clause-memory c =
    let over = subst (λ (x : One). IsUnnumbered x c.new-2.result c.args.outer) (sym c.and_then.ensures.layer) c.with_filter-without.ensures in
    let below = subst (λ (x : One). IsUnnumbered x c.new.result c.args.inner) (sym c.and_then.ensures.below) c.with_filter-within.ensures in
    absurd (finds_room c.numbers_are_own.ensures _ _ c.args.outer c.args.inner _ _ _ c.new-3.ensures over below c.in-Err.ensures.refused.full)

pub returns-clause-served : goal.returns-clause-served
returns-clause-served c =
    let over = subst (λ (x : One). IsUnnumbered x c.new-2.result c.args.outer) (sym c.and_then.ensures.layer) c.with_filter-without.ensures in
    let below = subst (λ (x : One). IsUnnumbered x c.new.result c.args.inner) (sym c.and_then.ensures.below) c.with_filter-within.ensures in
    let attached = c.in-Ok.ensures.attached in
    let put = put_on c.numbers_are_own.ensures _ _ c.args.outer c.args.inner _ _ _ c.new-3.ensures over below _ c.new-2.ensures c.new.ensures
    attached.numbers attached.room attached.layer_as_it_was.0 attached.layer_as_it_was.1 in
    let registered = c.new-dispatch.ensures.registered in
    let ready = c.new-dispatch.ensures.ready _ put.ready in
    record {
      first = c.new-dispatch.result;
      begins = in_use c.args.outer c.args.inner _ _ registered.0.0 registered.0.1 registered.1 put.begins;
      kept = c.new-dispatch.ensures.kept.callsites;
      served = c.in_ok-answers.ensures.served (ready.0, ready.1);
    }
