use Rattle.std.proofs.Common.{[], ◌∷◌, get_or, subst, sym, All}
use Rattle.std.proofs.lemmas.List.Elements.{All-append, All-cons, All-nil}
use Rattle.span_dispatch.specs.Registration.{IsRegistered}
use Rattle.span_bench.proofs.rounds.registered.Goals as goal

pub loop-metadata-preserved : goal.loop-metadata-preserved
loop-metadata-preserved g c =
    let new = c.register_callsite.new.self in
    let one = c.in_ok-register_callsite.field-0 in (
      subst g.S.Subscriber.usable (sym c.in_ok-register_callsite.ensures.stack) c.loop-metadata.invariant.0,
      subst (All (IsRegistered new)) (sym c.in_ok-push.ensures.items)
          (All-append (IsRegistered new) c.loop-metadata.table.items (one ∷ [])
          (λ k d lt. c.in_ok-register_callsite.ensures.registered (get_or c.loop-metadata.table.items k d) (c.loop-metadata.invariant.1 k d lt))
          (All-cons (IsRegistered new) one [] c.in_ok-register_callsite.ensures.registers (All-nil (IsRegistered new)))),
    )
