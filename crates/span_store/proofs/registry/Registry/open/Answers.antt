use Rattle.std.proofs.Common.{◌≡◌, ◌<◌, ◌∙◌, sym, ap, subst, Option, Some, refl}
use Rattle.std.proofs.lemmas.Result.{err_from_is_err_and}
use Rattle.std.specs.FinMap.{get}
use Rattle.std.specs.FinSet.{len as set_len}
use Rattle.std.specs.Option.{option_map}
use Rattle.span_core.specs.Span.{number_of}
use Rattle.span_core.specs.declared.error.TraceError.TheVariants.{OutOfMemory, TooManySpans}
use Rattle.span_core.specs.declared.span.Id.{Id}
use Rattle.span_core.specs.declared.span.Lane.{Lane}
use Rattle.span_core.specs.declared.span.Parent.{Parent}
use Rattle.span_store.specs.private.StoreRepr.{KeptSpans}
use Rattle.span_store.specs.private.State.{state_of}
use Rattle.span_store.specs.Step.{AskedSpan, FindsParent, Opens, RefusesNew}
use Rattle.span_store.specs.Store.{RegistryState}
use Rattle.span_store.specs.declared.limits.Limits.{Limits}
use Rattle.span_store.proofs.Begins.{has_more}
use Rattle.span_store.proofs.Opened.{above_there, below, grows_child, grows_root, new_record, no_place, none_reserved, opened, place, recorded}
use Rattle.span_store.proofs.Removed.{some_and}
use Rattle.span_store.proofs.registry.Registry.open.Goals as goal

-- the parent that was found, as a call asks for it
found_for : (s : RegistryState) (lane : Lane) (asked : Parent) (o p : Option Id)
    → o ≡ p → FindsParent s lane asked (option_map number_of o) → FindsParent s lane asked (option_map number_of p)
found_for s lane asked o p e = subst (λ (q : Option Id). FindsParent s lane asked (option_map number_of q)) e

pub returns-then-is_full-clause-refused : goal.returns-then-is_full-clause-refused
returns-then-is_full-clause-refused c =
    subst (λ (asked : Parent). RefusesNew c.args.self.now c.args.lane asked TooManySpans) c.asked_parent.ensures
    ((option_map number_of c.in_ok-parent.parent, c.in_ok-parent.ensures.found), no_place c.self.inside c.args.self.now c.self.view_is c.if-is_full.ensures)

pub returns-in_err-id-clause-refused : goal.returns-in_err-id-clause-refused
returns-in_err-id-clause-refused c =
    let p = err_from_is_err_and c.from_residual-in_err-id.result c.from_residual-in_err-id.ensures.1 in
    rw (p.1, p.2, c.in_err-id.ensures.memory.0)
    (subst (λ (asked : Parent). RefusesNew c.args.self.now c.args.lane asked OutOfMemory) c.asked_parent.ensures (
      (option_map number_of c.in_ok-parent.parent, c.in_ok-parent.ensures.found),
      place c.self.inside c.args.self.now c.self.view_is c.if-is_full.ensures,
      none_reserved c.self.inside c.args.self.now c.self.view_is c.in_err-id.ensures.memory.1,
    ))

pub gain_child-requires : goal.gain_child-requires
gain_child-requires c =
    let a = c.self.inside in
    let s = c.args.self.now in
    let p = c.in-Some.above in
    let found = found_for s c.args.lane c.asked_parent.result _ (Some p) c.in-Some.is c.in_ok-parent.ensures.found in
    let u = recorded a s c.args.lane c.asked_parent.result (Some p) c.self.view_is found.chosen in
    let there = above_there a c.in_ok-id.id p _ u.0 c.insert.new.self c.in_ok-id.ensures.inserted u.1 in
    let fewer : (u.0).children < (a.spans).limits.count = below a s (number_of p) u.0 c.self.view_is c.self.invariant.kept u.1 found.room in
    some_and (λ r. r.children < c.limits-count.result.count)
    (get (c.insert.new.self).records (number_of p)) u.0 there (subst (λ (l : Limits). (u.0).children < l.count) (sym c.limits-count.ensures) fewer)

pub invariant_of-self-in-Some : goal.invariant_of-self-in-Some
invariant_of-self-in-Some c =
    let a = c.self.inside in
    let p = c.in-Some.above in
    let found = found_for c.args.self.now c.args.lane c.asked_parent.result _ (Some p) c.in-Some.is c.in_ok-parent.ensures.found in
    let u = recorded a c.args.self.now c.args.lane c.asked_parent.result (Some p) c.self.view_is found.chosen in
    let grows = grows_child a c.in_ok-id.id
    p _ u.0 c.insert.new.self c.gain_child.new.self c.self.invariant.kept c.in_ok-id.ensures.inserted refl c.in-Some.is u.1 c.gain_child.ensures in
    record {
      kept = (grows.added).kept;
      begins = λ none. absurd (has_more _ _ c.in_ok-id.ensures.inserted.fresh (sym (ap (λ (s : KeptSpans). set_len s.issued) grows.rest) ∙ none));
    }

pub invariant_of-self-in_default : goal.invariant_of-self-in_default
invariant_of-self-in_default c =
    let grows = grows_root c.self.inside c.in_ok-id.id _ c.insert.new.self c.self.invariant.kept c.in_ok-id.ensures.inserted refl c.in_default.is in
    record {
      kept = (grows.added).kept;
      begins = λ none. absurd (has_more _ _ c.in_ok-id.ensures.inserted.fresh (sym (ap (λ (s : KeptSpans). set_len s.issued) grows.rest) ∙ none));
    }

pub returns-in-Some-clause-opened : goal.returns-in-Some-clause-opened
returns-in-Some-clause-opened c =
    let a = c.self.inside in
    let o = c.in_ok-parent.parent in
    let p = c.in-Some.above in
    let span : AskedSpan = record { metadata = c.metadata.result; parent = c.asked_parent.result; verdict = c.refused.result } in
    let found = found_for c.args.self.now c.args.lane c.asked_parent.result o (Some p) c.in-Some.is c.in_ok-parent.ensures.found in
    let u = recorded a c.args.self.now c.args.lane c.asked_parent.result (Some p) c.self.view_is found.chosen in
    let grows = grows_child a c.in_ok-id.id p (new_record span o)
    u.0 c.insert.new.self c.gain_child.new.self c.self.invariant.kept c.in_ok-id.ensures.inserted refl c.in-Some.is u.1 c.gain_child.ensures in
    subst (λ (asked : AskedSpan). Opens c.args.lane asked c.in_ok-id.id c.args.self.now (state_of (record a { spans = c.gain_child.new.self })))
    (λ i. record { metadata = c.metadata.ensures i; parent = c.asked_parent.ensures i; verdict = c.refused.ensures i })
    (opened a c.insert.new.self c.gain_child.new.self c.args.self.now
    c.args.lane span o c.in_ok-id.id c.self.view_is c.self.invariant.kept c.in_ok-parent.ensures.found c.if-is_full.ensures c.in_ok-id.ensures.inserted grows)

pub returns-in_default-clause-opened : goal.returns-in_default-clause-opened
returns-in_default-clause-opened c =
    let a = c.self.inside in
    let o = c.in_ok-parent.parent in
    let span : AskedSpan = record { metadata = c.metadata.result; parent = c.asked_parent.result; verdict = c.refused.result } in
    let grows = grows_root a c.in_ok-id.id (new_record span o) c.insert.new.self c.self.invariant.kept c.in_ok-id.ensures.inserted refl c.in_default.is in
    subst (λ (asked : AskedSpan). Opens c.args.lane asked c.in_ok-id.id c.args.self.now (state_of (record a { spans = c.insert.new.self })))
    (λ i. record { metadata = c.metadata.ensures i; parent = c.asked_parent.ensures i; verdict = c.refused.ensures i })
    (opened a c.insert.new.self c.insert.new.self c.args.self.now
    c.args.lane span o c.in_ok-id.id c.self.view_is c.self.invariant.kept c.in_ok-parent.ensures.found c.if-is_full.ensures c.in_ok-id.ensures.inserted grows)
