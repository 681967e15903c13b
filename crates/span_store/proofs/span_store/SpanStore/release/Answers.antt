use Rattle.std.proofs.Common.{◌≡◌, ◌↔◌, Option, IfSome, arith, refl, subst, sym, ◌∙◌, inl, inr}
use Rattle.std.proofs.lemmas.Bool.{true≢false}
use Rattle.std.specs.FinMap.{get}
use Rattle.span_core.specs.Span.{number_of}
use Rattle.span_store.specs.private.StoreRepr.{CountsAny, counts_in, released}
use Rattle.span_store.specs.declared.registry.Released.TheVariants.{Closing, StillOpen}
use Rattle.span_store.specs.declared.span_record.Counts.{Counts}
use Rattle.span_store.specs.declared.span_record.SpanRecord.{SpanRecord}
use Rattle.span_store.proofs.Removed.{some_and}
use Rattle.span_store.proofs.Stored.{counts_nothing, lends_some, lent_record, record_written, unseen_record}
use Rattle.span_store.proofs.span_store.SpanStore.release.Goals as goal

pub returns-in_default-clause-refused : goal.returns-in_default-clause-refused
returns-in_default-clause-refused c =
    inl (refl, counts_nothing _ (unseen_record c.self.inside c.args.self.now (number_of c.args.id) c.self.view_is (sym c.key_of.ensures ∙ c.in_default.is)))

pub returns-in_default-get_mut-clause-refused : goal.returns-in_default-get_mut-clause-refused
returns-in_default-get_mut-clause-refused c = absurd (lends_some c.self.inside
    (number_of c.args.id) c.in-Some.key _ c.self.invariant (sym c.key_of.ensures ∙ c.in-Some.is) c.get_mut.ensures.value c.in_default-get_mut.is)

pub returns-then-not-is_open-clause-refused : goal.returns-then-not-is_open-clause-refused
returns-then-not-is_open-clause-refused c =
    let s = c.args.self.now in
    let there = lent_record c.self.inside
    s (number_of c.args.id) c.in-Some.key _ _ c.self.view_is (sym c.key_of.ensures ∙ c.in-Some.is) c.get_mut.ensures.value c.in-Some-get_mut.is in
    inl (
      refl,
      subst (λ (o : Option SpanRecord). IfSome o (λ r. CountsAny (counts_in r) → ⊥))
          (sym there) (λ any. true≢false (sym (c.is_open.ensures.1 (subst CountsAny (sym c.counts.ensures) any)) ∙ c.if-not-is_open.true)),
    )

pub returns-then-found-eq0-clause-refused : goal.returns-then-found-eq0-clause-refused
returns-then-found-eq0-clause-refused c =
    let s = c.args.self.now in
    let there = lent_record c.self.inside
    s (number_of c.args.id) c.in-Some.key _ _ c.self.view_is (sym c.key_of.ensures ∙ c.in-Some.is) c.get_mut.ensures.value c.in-Some-get_mut.is in
    inr (
      refl,
      some_and (λ r. CountsAny (counts_in r) × (r.handles ≡ 0))
          (get s.records (number_of c.args.id)) _ there (subst CountsAny c.counts.ensures (c.is_open.ensures.0 c.if-not-is_open.false), c.if-found-eq0.true),
    )

pub returns-clause-released : goal.returns-clause-released
returns-clause-released c =
    let a = c.self.inside in
    let s = c.args.self.now in
    let x = number_of c.args.id in
    let key = c.in-Some.key in
    let old = c.in-Some-get_mut.found.now in
    let has = sym c.key_of.ensures ∙ c.in-Some.is in
    record {
      span = old;
      found = lent_record a s x key _ _ c.self.view_is has c.get_mut.ensures.value c.in-Some-get_mut.is;
      held = (let ne = c.if-found-eq0.false in omega arith);
      state = record_written a s x key (released old) c.self.invariant c.self.view_is has;
      closing = subst (λ (k : Counts). (c.state.result ≡ Closing) ↔ (CountsAny k → ⊥)) c.counts-2.ensures c.state.ensures.closing;
      still_open = subst (λ (k : Counts). (c.state.result ≡ StillOpen) ↔ CountsAny k) c.counts-2.ensures c.state.ensures.still_open;
    }
