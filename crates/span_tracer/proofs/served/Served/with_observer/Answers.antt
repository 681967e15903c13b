use Rattle.std.proofs.Common.{◌∙◌, ap, subst}
use Rattle.std.specs.Fn.{FnOnceReturnsAtMut}
use Rattle.span_dispatch.specs.Serve.{forgetful, with_stack}
use Rattle.span_tracer.proofs.Counted.{changed}
use Rattle.span_tracer.proofs.served.Served.with_observer.Goals as goal

pub invariant_of-self : goal.invariant_of-self
invariant_of-self g c =
    let old = c.self.inside in
    let given = c.with_observer-given in (
      changed g.S.LookupSpan.registry g.S.Subscriber.usable old.dispatch (with_stack (forgetful old.dispatch) given.new.self) old.calls
          c.self.invariant.0 given.ensures.usable (given.ensures.registry ∙ ap g.S.LookupSpan.registry c.stack_mut.ensures.value),
      (λ place r at. absurd (c.new.ensures place r at)),
    )

pub returns : goal.returns
returns g c =
    let old = c.self.inside in
    let given = c.with_observer-given in (
      old.dispatch,
      with_stack (forgetful old.dispatch) given.new.self,
      old.calls,
      c.self.invariant.0,
      record {
        changed = subst
            (λ x. FnOnceReturnsAtMut g.F.FnOnce c.args.body (g.S.HasObserver.observer x) given.result (g.S.HasObserver.observer given.new.self))
            c.stack_mut.ensures.value given.ensures.changed;
        rest = ap (λ x. with_stack (forgetful old.dispatch) x) (given.ensures.rest
            ∙ ap (λ x. g.S.HasObserver.replaced x (g.S.HasObserver.observer given.new.self)) c.stack_mut.ensures.value);
        same_registry = given.ensures.registry ∙ ap g.S.LookupSpan.registry c.stack_mut.ensures.value;
      },
    )
