use Rattle.std.proofs.Common.{◌<◌, ◌++◌, ◌∷◌, [], subst, sym}
use Rattle.std.specs.FinMap.{len}
use Rattle.span_core.specs.Span.{number_of}
use Rattle.span_store.specs.Step.{Removes}
use Rattle.span_store.specs.Store.{IsClosing, RegistryState, Spans}
use Rattle.span_registry.proofs.CallerLemmas.{hooks_alone}
use Rattle.span_dispatch.proofs.Calls.{all_closed, is_next, nothing_yet, one_more}
use Rattle.span_dispatch.proofs.dispatch.close_all.Goals as goal

pub loop-next-init : goal.loop-next-init
loop-next-init g c =
    (c.requires.usable, ([], nothing_yet g.met.S.Subscriber.laws g.met.S.LookupSpan.with_own g.S.Subscriber.reloaded c.args.lane c.args.id c.args.stack.now))

pub close_hooks-requires : goal.close_hooks-requires
close_hooks-requires g c = c.loop-next.invariant.0

-- the span is closing still, since hooks leave spans alone
pub remove-next-requires : goal.remove-next-requires
remove-next-requires g c =
    let before = is_next g.met.S.Subscriber.laws g.met.S.LookupSpan.with_own g.S.Subscriber.reloaded c.args.lane c.args.id
    c.args.stack.now c.loop-next.invariant.1.0 c.loop-next.next c.loop-next.stack c.in-Some.span c.requires.closing c.loop-next.invariant.1.1 c.in-Some.is in
    subst (λ (s : RegistryState). IsClosing s.store.spans (number_of c.in-Some.span)) (sym c.root_mut.ensures.value)
    (subst (λ (m : Spans). IsClosing m (number_of c.in-Some.span)) (sym (hooks_alone c.close_hooks.ensures.hooks).spans) before)

pub loop-next-smaller : goal.loop-next-smaller
loop-next-smaller g c =
    let fewer =
    subst (λ (s : RegistryState). len c.remove-next.new.self.store.spans < len s.store.spans) c.root_mut.ensures.value c.remove-next.ensures.fewer in
    subst (λ (s : RegistryState). len s.store.spans < len (g.S.LookupSpan.registry c.loop-next.stack).store.spans)
    (sym (g.met.S.LookupSpan.registry_with c.close_hooks.new.self c.remove-next.new.self))
    (subst (λ (m : Spans). len c.remove-next.new.self.store.spans < len m) (hooks_alone c.close_hooks.ensures.hooks).spans fewer)

pub loop-next-preserved : goal.loop-next-preserved
loop-next-preserved g c = (
  g.met.S.Subscriber.laws.usable_with c.close_hooks.new.self c.remove-next.new.self c.close_hooks.ensures.usable,
  (
    c.loop-next.invariant.1.0 ++ (number_of c.in-Some.span ∷ []),
    one_more g.met.S.Subscriber.laws g.met.S.LookupSpan.with_own g.S.Subscriber.reloaded
        g.met.S.LookupSpan.registry_with c.args.lane c.args.id c.args.stack.now c.loop-next.invariant.1.0 c.loop-next.next c.loop-next.stack
        c.close_hooks.new.self c.in-Some.span c.remove-next.new.self c.remove-next.result c.requires.closing c.loop-next.invariant.1.1 c.in-Some.is
        c.close_hooks.ensures.hooks
        (subst (λ (s : RegistryState). Removes c.in-Some.span c.remove-next.result s c.remove-next.new.self) c.root_mut.ensures.value c.remove-next.ensures),
  ),
)

pub returns-clause-usable : goal.returns-clause-usable
returns-clause-usable g c = c.loop-next.invariant.0

pub returns-clause-closes : goal.returns-clause-closes
returns-clause-closes g c = all_closed g.met.S.Subscriber.laws g.met.S.LookupSpan.with_own g.S.Subscriber.reloaded
    c.args.lane c.args.id c.args.stack.now c.loop-next.invariant.1.0 c.loop-next.next c.loop-next.stack c.loop-next.invariant.1.1 c.in_default.is
