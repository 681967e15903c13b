use Rattle.std.proofs.Common.{ap, nat_eq, refl, subst, sym}
use Rattle.std.specs.Map.{lookup}
use Rattle.span_dispatch.proofs.Admits.{gives_begun}
use Rattle.span_dispatch.specs.private.Interest.{GivesInterest}
use Rattle.span_dispatch.specs.declared.cache.Cache.TheVariants.{Filled}
use Rattle.span_dispatch.proofs.cache.Cache.begin.Goals as goal

pub returns : goal.returns
returns g c =
    let new = Filled c.interest-interest.new.self in
    subst (λ old. GivesInterest g.S.LookupSpan.registry g.S.Subscriber.has_form c.args.stack.now c.args.meta.now c.interest-interest.result old new)
    (sym c.requires.empty)
    (gives_begun g.S.LookupSpan.registry g.S.Subscriber.has_form
    c.args.stack.now c.args.meta.now
    _ new c.interest-interest.result (λ n. ap (λ es. lookup (nat_eq n) es) c.with_hasher.ensures.empty) refl c.max_level_hint.ensures
    c.interest-interest.ensures)
