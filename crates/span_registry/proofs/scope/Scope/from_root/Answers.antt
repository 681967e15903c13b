use Rattle.std.proofs.Common.{sym}
use Rattle.std.proofs.lemmas.Bool.{true≢false}
use Rattle.span_registry.specs.References.{to_give}
use Rattle.span_registry.proofs.FromRoot.{collected, has_room}
use Rattle.span_registry.proofs.scope.Scope.from_root.Goals as goal

pub loop-span-preserved : goal.loop-span-preserved
loop-span-preserved g c =
    let left = to_give g.R.LookupSpan.registry in
    collected c.loop-span.spans.items c.push.new.self.items c.loop-span.spans.capacity c.push.new.self.capacity c.in-Some.span
    (left c.loop-span.span-iterator) (left c.next.new.self)
    (left c.args.self) c.loop-span.invariant c.in_ok-push.ensures.ok c.in_ok-push.ensures.capacity c.in-Some.ensures.steps

pub returns-in_err-push-clause-short : goal.returns-in_err-push-clause-short
returns-in_err-push-clause-short g c = λ short.
    let left = to_give g.R.LookupSpan.registry in
    let room = has_room c.loop-span.spans.items c.loop-span.spans.capacity
    c.in-Some.span (left c.loop-span.span-iterator) (left c.next.new.self) (left c.args.self) c.loop-span.invariant c.in-Some.ensures.steps short in
    absurd (true≢false (sym (c.in_err-push.ensures.succeeds room)))
