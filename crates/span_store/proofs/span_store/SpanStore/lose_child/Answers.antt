use Rattle.std.proofs.Common.{◌≡◌, ◌<◌, ◌-◌, ℕ, Option, IfSome, inl, inr, zero, suc, sym, subst, ◌∙◌, arith, refl}
use Rattle.std.specs.FinMap.{get}
use Rattle.span_core.specs.Span.{number_of}
use Rattle.span_core.specs.declared.span.Id.{Id}
use Rattle.span_store.specs.private.StoreRepr.{CountsAny, CountsOneChild, HasRecord, counts_in, fewer}
use Rattle.span_store.specs.declared.span_record.Counts.{Counts}
use Rattle.span_store.specs.declared.span_record.SpanRecord.{SpanRecord}
use Rattle.span_store.proofs.Removed.{at_some, some_and}
use Rattle.span_store.proofs.Stored.{has_key, keeps_written, lends_some, lent_record, writes_record}
use Rattle.span_store.proofs.span_store.SpanStore.lose_child.Goals.{in-Closing, in-StillOpen}
use Rattle.span_store.proofs.span_store.SpanStore.lose_child.Goals as goal

-- a record whose last child goes counts one child and no handle
last_child : (r : SpanRecord) → 0 < r.children → (CountsAny (counts_in (fewer r)) → ⊥) → CountsOneChild r
last_child r some none = (no_handle r.handles (λ l. none (inl l)), one r.children some (λ l. none (inr l)))
  where
    no_handle : (h : ℕ) → (0 < h → ⊥) → h ≡ 0
    no_handle zero l = refl
    no_handle (suc h) l = absurd (l (omega arith))

    one : (n : ℕ) → 0 < n → (0 < n - 1 → ⊥) → n ≡ 1
    one zero s l = absurd (omega arith)
    one (suc zero) s l = refl
    one (suc (suc n)) s l = absurd (l (omega arith))

more_than_one : (r : SpanRecord) → CountsAny (counts_in (fewer r)) → CountsOneChild r → ⊥
more_than_one r (inl l) one = let h : r.handles ≡ 0 = one.0 in omega arith
more_than_one r (inr l) one = let n : r.children ≡ 1 = one.1 in omega arith

pub returns-in_err-key-clause-written : goal.returns-in_err-key-clause-written
returns-in_err-key-clause-written c =
    absurd (has_key _ c.self.inside c.args.self.now (number_of c.args.id) c.self.view_is c.requires (sym c.key_of.ensures ∙ c.in_err-key.was))

pub returns-in_err-key-clause-still_open : goal.returns-in_err-key-clause-still_open
returns-in_err-key-clause-still_open c =
    absurd (has_key _ c.self.inside c.args.self.now (number_of c.args.id) c.self.view_is c.requires (sym c.key_of.ensures ∙ c.in_err-key.was))

pub returns-in_err-found-clause-written : goal.returns-in_err-found-clause-written
returns-in_err-found-clause-written c = absurd (lends_some c.self.inside
    (number_of c.args.id) c.in_ok-key.key _ c.self.invariant (sym c.key_of.ensures ∙ c.in_ok-key.was) c.get_mut.ensures.value c.in_err-found.was)

pub returns-in_err-found-clause-still_open : goal.returns-in_err-found-clause-still_open
returns-in_err-found-clause-still_open c = absurd (lends_some c.self.inside
    (number_of c.args.id) c.in_ok-key.key _ c.self.invariant (sym c.key_of.ensures ∙ c.in_ok-key.was) c.get_mut.ensures.value c.in_err-found.was)

pub overflow_sub-found : goal.overflow_sub-found
overflow_sub-found c =
    let s = c.args.self.now in
    let x = number_of c.args.id in
    let there =
    lent_record c.self.inside s x c.in_ok-key.key _ _ c.self.view_is (sym c.key_of.ensures ∙ c.in_ok-key.was) c.get_mut.ensures.value c.in_ok-found.was in
    let some : 0 < (c.in_ok-found.found.now).children = at_some _ (get s.records x) _ there c.requires in
    omega arith

pub invariant_of-self-2 : goal.invariant_of-self-2
invariant_of-self-2 c = keeps_written c.self.inside (number_of c.args.id) c.in_ok-key.key _ c.self.invariant (sym c.key_of.ensures ∙ c.in_ok-key.was)

pub returns-clause-written : goal.returns-clause-written
returns-clause-written c =
    let a = c.self.inside in
    let s = c.args.self.now in
    let key = c.in_ok-key.key in
    let has = sym c.key_of.ensures ∙ c.in_ok-key.was in
    let there = lent_record a s (number_of c.args.id) key _ _ c.self.view_is has c.get_mut.ensures.value c.in_ok-found.was in
    writes_record fewer a s c.args.id key _ c.self.invariant c.self.view_is has there

pub returns-clause-closing : goal.returns-clause-closing
returns-clause-closing c =
    let s = c.args.self.now in
    let x = number_of c.args.id in
    let old = c.in_ok-found.found.now in
    let there =
    lent_record c.self.inside s x c.in_ok-key.key _ _ c.self.view_is (sym c.key_of.ensures ∙ c.in_ok-key.was) c.get_mut.ensures.value c.in_ok-found.was in
    elim c.match-state.branch [
      | in-Closing w ↦
          let last = last_child old (at_some _ (get s.records x) old there c.requires)
          (subst (λ (k : Counts). CountsAny k → ⊥) c.counts.ensures (c.state.ensures.closing.0 w.in-Closing.is)) in
          subst (λ (o : Option Id). IfSome o (λ p. (p ≡ c.args.id) × HasRecord s c.args.id CountsOneChild))
          (sym w.result-is) (refl, some_and CountsOneChild (get s.records x) old there last)
      | in-StillOpen w ↦ subst (λ (o : Option Id). IfSome o (λ p. (p ≡ c.args.id) × HasRecord s c.args.id CountsOneChild)) (sym w.result-is) tt
    ]

pub returns-clause-still_open : goal.returns-clause-still_open
returns-clause-still_open c none =
    let s = c.args.self.now in
    let x = number_of c.args.id in
    let old = c.in_ok-found.found.now in
    let there =
    lent_record c.self.inside s x c.in_ok-key.key _ _ c.self.view_is (sym c.key_of.ensures ∙ c.in_ok-key.was) c.get_mut.ensures.value c.in_ok-found.was in
    elim c.match-state.branch [
      | in-Closing w ↦ let no : ⊥ = cc in absurd no
      | in-StillOpen w ↦ some_and (λ r. CountsOneChild r → ⊥)
          (get s.records x) old there (more_than_one old (subst CountsAny c.counts.ensures (c.state.ensures.still_open.0 w.in-StillOpen.is)))
    ]
