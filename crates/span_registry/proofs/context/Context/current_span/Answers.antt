use Rattle.std.proofs.Common.{IfSome, sym, ap, subst, ◌∙◌}
use Rattle.span_store.specs.Step.{entered_last}
use Rattle.span_store.specs.Store.{IsInStore}
use Rattle.span_registry.specs.Context.{store_at, store_in}
use Rattle.span_registry.proofs.Finds.{entered_nowhere}
use Rattle.span_registry.proofs.context.Context.current_span.Goals as goal

pub returns-in-None : goal.returns-in-None
returns-in-None g c =
    let lane = c.args.self.now.lane.0 in
    let s = store_in g.S.LookupSpan.registry c.args.self.now in
    let none = ap (λ o. entered_last (store_at g.S.LookupSpan.registry o) lane) c.in-None.is ∙ entered_nowhere lane in
    record {
      span = rw c.none.ensures (subst (λ w. IfSome w (λ x. IsInStore s.spans x → ⊥)) (sym none) tt);
      metadata = rw c.none.ensures tt;
    }
