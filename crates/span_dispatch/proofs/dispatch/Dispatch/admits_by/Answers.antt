use Rattle.span_stacks.proofs.Built.{rules_of}
use Rattle.std.proofs.Common.{refl, rules, subst}
use Rattle.std.specs.Prelude.{IfSome}
use Rattle.span_dispatch.specs.private.Registration.{IsRegisteredAs}
use Rattle.span_core.specs.declared.interest.Interest.TheVariants.{Always}
use Rattle.span_dispatch.proofs.Admits.{admits_always, decides_always, gives_cached}
use Rattle.span_dispatch.proofs.Registered.{registered_always}
use Rattle.span_dispatch.specs.Serve.{kept_by, stack_of}
use Rattle.span_dispatch.proofs.dispatch.Dispatch.admits_by.Goals as goal

pub returns-then-is_always_in-clause-admitted : goal.returns-then-is_always_in-clause-admitted
returns-then-is_always_in-clause-admitted g c = λ f h u.
    let given = gives_cached g.S.LookupSpan.registry g.S.Subscriber.has_form (stack_of c.args.self.now) c.args.meta c.args.self.now.cache Always
    (registered_always c.args.self.now c.args.meta c.in-Some.callsite.now
    (subst (λ o. IfSome o (λ r. IsRegisteredAs c.args.meta c.args.self.now r.now)) c.in-Some.is c.requires.known) (c.if-is_always_in.ensures refl)) in
    admits_always (kept_by c.args.self.now) f (g.S.LookupSpan.registry (stack_of c.args.self.now)) c.args.lane c.args.meta (kept_by c.args.self.now)
    h.rules c.args.pass.now Always (given.by_form f h.has (rules_of f _ h.rules).answers u) refl c.requires.fresh

pub returns-then-is_always_in-clause-decided : goal.returns-then-is_always_in-clause-decided
returns-then-is_always_in-clause-decided g c = λ f d u.
    let given = gives_cached g.S.LookupSpan.registry g.S.Subscriber.has_form (stack_of c.args.self.now) c.args.meta c.args.self.now.cache Always
    (registered_always c.args.self.now c.args.meta c.in-Some.callsite.now
    (subst (λ o. IfSome o (λ r. IsRegisteredAs c.args.meta c.args.self.now r.now)) c.in-Some.is c.requires.known) (c.if-is_always_in.ensures refl)) in
    decides_always (kept_by c.args.self.now) f (g.S.LookupSpan.registry (stack_of c.args.self.now)) c.args.lane c.args.meta
    Always (given.decides f d u) c.args.pass.now refl c.requires.fresh

pub returns-then-is_always_in-clause-kept : goal.returns-then-is_always_in-clause-kept
returns-then-is_always_in-clause-kept g c =
    let given = gives_cached g.S.LookupSpan.registry g.S.Subscriber.has_form (stack_of c.args.self.now) c.args.meta c.args.self.now.cache Always
    (registered_always c.args.self.now c.args.meta c.in-Some.callsite.now
    (subst (λ o. IfSome o (λ r. IsRegisteredAs c.args.meta c.args.self.now r.now)) c.in-Some.is c.requires.known) (c.if-is_always_in.ensures refl)) in
    record {
      hint = given.reads;
      learned = given.learns;
      keeps = given.keeps;
      above = search rules;
      mismatch = search rules;
      refused = tt;
    }
