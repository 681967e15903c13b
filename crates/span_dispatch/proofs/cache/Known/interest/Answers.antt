use Rattle.std.proofs.Common.{subst, sym, ap, ◌∙◌}
use Rattle.std.specs.Prelude.{IfSome}
use Rattle.std.specs.Option.{option_copied}
use Rattle.span_core.specs.Level.{is_above}
use Rattle.span_dispatch.specs.Cache.{KnowsInterest, known_of}
use Rattle.span_dispatch.specs.declared.cache.Cache.TheVariants.{Filled}
use Rattle.span_dispatch.proofs.Admits.{fails_above, gives_above, gives_kept, passes_below}
use Rattle.span_dispatch.proofs.cache.Known.interest.Goals as goal

pub returns-then-not-passes : goal.returns-then-not-passes
returns-then-not-passes g c =
    let k = c.args.self.now in
    gives_above g.S.LookupSpan.registry g.S.Subscriber.has_form c.args.stack.now c.args.meta.now k
    (ap (λ l. is_above l k.hint) (sym c.level.ensures) ∙ fails_above _ _ c.passes.ensures c.if-not-passes.true)

pub returns-in-Some : goal.returns-in-Some
returns-in-Some g c =
    let k = c.args.self.now in
    let m = c.args.meta.now in
    let h = subst (λ o. IfSome o (KnowsInterest (Filled k) m)) c.in-Some.is c.requires.kept in
    gives_kept g.S.LookupSpan.registry g.S.Subscriber.has_form c.args.stack.now m k (record { metadata = h.metadata; interest = c.in-Some.interest })
    (ap (λ l. is_above l k.hint) (sym c.level.ensures) ∙ passes_below _ _ c.passes.ensures c.if-not-passes.false)
    h.there h.same

pub returns-then-shows_same : goal.returns-then-shows_same
returns-then-shows_same g c =
    let k = c.args.self.now in
    let m = c.args.meta.now in
    gives_kept g.S.LookupSpan.registry g.S.Subscriber.has_form c.args.stack.now m k c.in-Some-get.callsite.now
    (ap (λ l. is_above l k.hint) (sym c.level.ensures) ∙ passes_below _ _ c.passes.ensures c.if-not-passes.false)
    (ap (known_of k) (sym c.callsite.ensures) ∙ sym c.get.ensures.value ∙ ap option_copied c.in-Some-get.is)
    (c.shows_same.ensures.0 c.if-shows_same.true)

pub learn-requires-clause-below : goal.learn-requires-clause-below
learn-requires-clause-below g c =
    let k = c.args.self.now in
    ap (λ l. is_above l k.hint) (sym c.level.ensures) ∙ passes_below _ _ c.passes.ensures c.if-not-passes.false

pub learn-requires-clause-unknown : goal.learn-requires-clause-unknown
learn-requires-clause-unknown g c =
    let k = c.args.self.now in
    ap (known_of k) (sym c.callsite.ensures) ∙ sym c.get.ensures.value ∙ ap option_copied c.in_default-get.is
