use Rattle.std.proofs.Common.{ap, subst, sym}
use Rattle.span_dispatch.specs.Serve.{stack_of}
use Rattle.span_shared.proofs.Journalled.{stays}
use Rattle.span_shared.specs.declared.entry.EntryWith.TheVariants as entry
use Rattle.span_tracer.proofs.Counted.{after_call, all_ok, on_err}
use Rattle.span_tracer.specs.Receiver.{Journalled}
use Rattle.span_tracer.proofs.served.Served.reload.Goals as goal
use Rattle.span_targets.specs.Setting.{level_in}

pub invariant_of-self : goal.invariant_of-self
invariant_of-self g c =
    let old = c.self.inside in
    let new = c.reload-given.new.self in (
      subst (Journalled g.S.LookupSpan.registry g.S.Subscriber.usable new) (sym c.counted.ensures)
          (after_call g.S.LookupSpan.registry g.S.Subscriber.usable old.dispatch new old.calls c.reload-given.result c.self.invariant.0
          c.reload-given.ensures.usable
          (all_ok c.reload-given.result (λ u. (
            entry.Reload (record { 0 = 0 }) c.args.number (level_in c.args.setting),
            stays (g.S.LookupSpan.registry (stack_of old.dispatch)) (g.S.LookupSpan.registry (stack_of new)) c.reload-given.ensures.sets.registry,
          )))
          (on_err c.reload-given.result (λ same. ap stack_of same) c.reload-given.ensures.sets.unchanged)),
      (λ place r at. absurd (c.new.ensures place r at)),
    )
