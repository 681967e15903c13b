use Rattle.std.proofs.Common.{sym, ap, ◌∙◌}
use Rattle.std.specs.FinMap.{get, get-empty}
use Rattle.std.specs.Option.{option_map}
use Rattle.std.specs.Ordering.{nat_cmp}
use Rattle.span_core.specs.Span.{number_of}
use Rattle.span_store.specs.Store.{RegistryState, Span, empty_store}
use Rattle.span_registry.specs.Context.{filters_in, store_at}
use Rattle.span_registry.proofs.Finds.{enabled_absent, enabled_at, enabled_by, passed_by}
use Rattle.span_registry.proofs.context.Context.is_enabled_for.Goals as goal

pub returns-in-None : goal.returns-in-None
returns-in-None g c =
    let x = number_of c.args.id in
    let mask = filters_in c.args.self.now in
    sym (ap (λ o. enabled_at (store_at g.S.LookupSpan.registry o) mask c.args.filter x) c.in-None.is
    ∙ enabled_absent empty_store mask c.args.filter x (get-empty nat_cmp x))

pub returns-in-None-verdict_of : goal.returns-in-None-verdict_of
returns-in-None-verdict_of g c =
    let x = number_of c.args.id in
    let mask = filters_in c.args.self.now in
    sym (enabled_by g.S.LookupSpan.registry c.args.self.now.subscriber c.in-Some.subscriber mask c.args.filter x c.verdict_of.result c.in-Some.is
    (c.verdict_of.ensures ∙ ap (λ (s : RegistryState). option_map (λ (r : Span). r.verdict) (get s.store.spans x)) c.root.ensures)
    ∙ ap (passed_by mask c.args.filter) c.in-None-verdict_of.is)

pub returns-in-Some-verdict_of : goal.returns-in-Some-verdict_of
returns-in-Some-verdict_of g c =
    let x = number_of c.args.id in
    let mask = filters_in c.args.self.now in
    c.passes.ensures
    ∙ sym (enabled_by g.S.LookupSpan.registry c.args.self.now.subscriber c.in-Some.subscriber mask c.args.filter x c.verdict_of.result c.in-Some.is
    (c.verdict_of.ensures ∙ ap (λ (s : RegistryState). option_map (λ (r : Span). r.verdict) (get s.store.spans x)) c.root.ensures)
    ∙ ap (passed_by mask c.args.filter) c.in-Some-verdict_of.is)
