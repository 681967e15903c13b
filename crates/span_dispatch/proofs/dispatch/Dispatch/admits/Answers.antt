use Rattle.span_stacks.proofs.Built.{rules_of}
use Rattle.std.proofs.Common.{refl, rules}
use Rattle.span_dispatch.proofs.Admits.{admits_always, admits_asked, admits_never, decides_always, decides_asked, decides_never}
use Rattle.span_dispatch.proofs.Registered.{registered_still}
use Rattle.span_dispatch.specs.Cache.{kept_in}
use Rattle.span_dispatch.specs.Serve.{kept_by, stack_of}
use Rattle.span_dispatch.proofs.dispatch.Dispatch.admits.Goals as goal

pub returns-in-Ok-Never-clause-admitted : goal.returns-in-Ok-Never-clause-admitted
returns-in-Ok-Never-clause-admitted g c = λ f h u.
    admits_never (kept_by c.args.self.now) f (g.S.LookupSpan.registry (stack_of c.args.self.now)) c.args.lane c.args.meta.now (kept_in c.interest.new.self)
    h.rules c.args.pass.now c.in-Ok-Never.field-0 (c.in-Ok-Never.ensures.by_form f h.has (rules_of f _ h.rules).answers u) c.in-Ok-Never.field-0-is

pub returns-in-Ok-Sometimes-clause-admitted : goal.returns-in-Ok-Sometimes-clause-admitted
returns-in-Ok-Sometimes-clause-admitted g c = λ f h u.
    admits_asked (kept_by c.args.self.now)
    f (g.S.LookupSpan.registry (stack_of c.args.self.now)) c.args.lane c.args.meta.now (kept_in c.interest.new.self) h.rules g.S.LookupSpan.registry
    g.S.Subscriber.has_form (stack_of c.args.self.now) c.args.pass.now c.enabled.new.pass c.in-Ok-Sometimes.field-0 c.enabled.result refl h.has
    (c.in-Ok-Sometimes.ensures.by_form f h.has (rules_of f _ h.rules).answers u) c.in-Ok-Sometimes.field-0-is c.requires.fresh c.enabled.ensures

pub returns-in-Ok-Always-clause-admitted : goal.returns-in-Ok-Always-clause-admitted
returns-in-Ok-Always-clause-admitted g c = λ f h u.
    admits_always (kept_by c.args.self.now)
    f (g.S.LookupSpan.registry (stack_of c.args.self.now)) c.args.lane c.args.meta.now (kept_in c.interest.new.self) h.rules
    c.args.pass.now c.in-Ok-Always.field-0 (c.in-Ok-Always.ensures.by_form f h.has (rules_of f _ h.rules).answers u) c.in-Ok-Always.field-0-is c.requires.fresh

pub returns-in-Ok-Never-clause-decided : goal.returns-in-Ok-Never-clause-decided
returns-in-Ok-Never-clause-decided g c = λ f d u.
    decides_never (kept_by c.args.self.now) f (g.S.LookupSpan.registry (stack_of c.args.self.now)) c.args.lane c.args.meta.now
    c.in-Ok-Never.field-0 (c.in-Ok-Never.ensures.decides f d u) c.args.pass.now c.in-Ok-Never.field-0-is c.requires.fresh

pub returns-in-Ok-Sometimes-clause-decided : goal.returns-in-Ok-Sometimes-clause-decided
returns-in-Ok-Sometimes-clause-decided g c = λ f d u.
    decides_asked (kept_by c.args.self.now) f (g.S.LookupSpan.registry (stack_of c.args.self.now)) c.args.lane c.args.meta.now
    c.in-Ok-Sometimes.field-0 (c.in-Ok-Sometimes.ensures.decides f d u) g.S.LookupSpan.registry g.S.Subscriber.has_form (stack_of c.args.self.now)
    c.args.pass.now c.enabled.new.pass c.enabled.result refl d c.in-Ok-Sometimes.field-0-is c.requires.fresh c.enabled.ensures

pub returns-in-Ok-Always-clause-decided : goal.returns-in-Ok-Always-clause-decided
returns-in-Ok-Always-clause-decided g c = λ f d u.
    decides_always (kept_by c.args.self.now) f (g.S.LookupSpan.registry (stack_of c.args.self.now)) c.args.lane c.args.meta.now
    c.in-Ok-Always.field-0 (c.in-Ok-Always.ensures.decides f d u) c.args.pass.now c.in-Ok-Always.field-0-is c.requires.fresh

pub returns-in-Err-clause-admitted : goal.returns-in-Err-clause-admitted
returns-in-Err-clause-admitted g c = λ f h u.
    let k = c.in-Err.ensures.by_form f h.has (rules_of f _ h.rules).answers u in
    record { hint = k.0; refused = c.in-Err.ensures.refused.1; same = k.1 }

pub returns-in-Err-clause-registered : goal.returns-in-Err-clause-registered
returns-in-Err-clause-registered g c = registered_still c.args.self.now (record c.args.self.now { cache = c.interest.new.self }) refl c.in-Err.ensures.lasts

pub returns-in-Ok-Never-clause-registered : goal.returns-in-Ok-Never-clause-registered
returns-in-Ok-Never-clause-registered g c =
    registered_still c.args.self.now (record c.args.self.now { cache = c.interest.new.self }) refl c.in-Ok-Never.ensures.lasts

pub returns-in-Ok-Sometimes-clause-registered : goal.returns-in-Ok-Sometimes-clause-registered
returns-in-Ok-Sometimes-clause-registered g c =
    registered_still c.args.self.now (record c.args.self.now { cache = c.interest.new.self }) refl c.in-Ok-Sometimes.ensures.lasts

pub returns-in-Ok-Always-clause-registered : goal.returns-in-Ok-Always-clause-registered
returns-in-Ok-Always-clause-registered g c =
    registered_still c.args.self.now (record c.args.self.now { cache = c.interest.new.self }) refl c.in-Ok-Always.ensures.lasts

pub returns-in-Err-clause-kept : goal.returns-in-Err-clause-kept
returns-in-Err-clause-kept g c = record {
  hint = c.in-Err.ensures.reads;
  learned = c.in-Err.ensures.learns;
  keeps = c.in-Err.ensures.keeps;
  above = search rules;
  mismatch = search rules;
  refused = search rules;
}

pub returns-in-Ok-Never-clause-kept : goal.returns-in-Ok-Never-clause-kept
returns-in-Ok-Never-clause-kept g c = record {
  hint = c.in-Ok-Never.ensures.reads;
  learned = c.in-Ok-Never.ensures.learns;
  keeps = c.in-Ok-Never.ensures.keeps;
  above = search rules;
  mismatch = search rules;
  refused = search rules;
}

pub returns-in-Ok-Sometimes-clause-kept : goal.returns-in-Ok-Sometimes-clause-kept
returns-in-Ok-Sometimes-clause-kept g c = record {
  hint = c.in-Ok-Sometimes.ensures.reads;
  learned = c.in-Ok-Sometimes.ensures.learns;
  keeps = c.in-Ok-Sometimes.ensures.keeps;
  above = search rules;
  mismatch = search rules;
  refused = search rules;
}

pub returns-in-Ok-Always-clause-kept : goal.returns-in-Ok-Always-clause-kept
returns-in-Ok-Always-clause-kept g c = record {
  hint = c.in-Ok-Always.ensures.reads;
  learned = c.in-Ok-Always.ensures.learns;
  keeps = c.in-Ok-Always.ensures.keeps;
  above = search rules;
  mismatch = search rules;
  refused = search rules;
}
