use Rattle.std.proofs.Common.{true, false, refl, sym, ap, subst, ◌∙◌}
use Rattle.std.specs.FinMap.{get}
use Rattle.span_core.specs.Span.{number_of}
use Rattle.span_store.specs.Store.{IsInStore, RegistryState, with_extensions}
use Rattle.span_registry.specs.Context.{filters_lent, lane_lent, subscriber_lent, with_subscriber}
use Rattle.span_registry.proofs.Lending.{read_alike}
use Rattle.span_registry.proofs.View.{extensions_by, shown_there}
use Rattle.span_registry.proofs.context.ContextMut.extensions_mut.Goals as goal

pub returns-then-not-shows : goal.returns-then-not-shows
returns-then-not-shows g c =
    let s = (g.S.LookupSpan.registry (subscriber_lent c.args.self.now)).store in
    let no = sym c.shows.ensures ∙ c.if-not-shows.true in (
      refl,
      record {
        writes_back = tt;
        value = sym (extensions_by s (lane_lent c.args.self.now).0 (filters_lent c.args.self.now) (number_of c.args.id) false no);
        there = sym no;
      },
    )

pub returns : goal.returns
returns g c =
    let lent = c.args.self.now in
    let x = number_of c.args.id in
    let s = (g.S.LookupSpan.registry (subscriber_lent lent)).store in
    let yes = sym c.shows.ensures ∙ c.if-not-shows.false in
    let root = c.root_mut-root.ensures.value in
    let over : RegistryState → _ = λ v. with_subscriber lent (g.S.LookupSpan.with_registry (subscriber_lent lent) v) in (
      read_alike _ _ _ _ _ (λ e. ap (λ (v : RegistryState). over (with_extensions v x e)) root)
          (ap over root ∙ ap (with_subscriber lent) (g.met.S.LookupSpan.with_own (subscriber_lent lent))),
      record {
        writes_back = tt;
        value = c.extensions_mut.ensures.value
            ∙ ap (λ (v : RegistryState). get v.store.extensions x) root ∙ sym (extensions_by s (lane_lent lent).0 (filters_lent lent) x true yes);
        there = c.extensions_mut.ensures.there.1 (subst (λ (v : RegistryState). IsInStore v.store.spans x) (sym root) (shown_there s (filters_lent lent) x yes))
            ∙ sym yes;
      },
    )
