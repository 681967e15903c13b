use Rattle.std.proofs.Common.{◌≡◌, ◌+◌, ◌≤◌, ◌<◌, ℕ, inl, inr, arith, Option, IsSome, is_some, option_map, true≢false, sym, ap, subst, ◌∙◌}
use Rattle.std.proofs.lemmas.Bool.{cases_lt}
use Rattle.std.specs.FinMap.{get, remove}
use Rattle.std.specs.Option.{option_and_then}
use Rattle.slab.specs.Slab.{get as under}
use Rattle.span_core.specs.Span.{number_of}
use Rattle.span_store.specs.private.StoreRepr.{KeptSpans}
use Rattle.span_store.specs.declared.span_record.SpanRecord.{SpanRecord}
use Rattle.span_store.proofs.Stored.{keyed, keeps_rest, seen_record, records_rest, extensions_rest, within}
use Rattle.span_store.proofs.span_store.SpanStore.remove.Goals as goal

pub returns-in_err-key-clause-parent : goal.returns-in_err-key-clause-parent
returns-in_err-key-clause-parent c =
    let a = c.self.inside in
    let x = number_of c.args.id in
    let some = keyed (under a.records)
    (get a.slots.keys x) (subst (λ (o : Option SpanRecord). IsSome o) (sym (seen_record a c.args.self.now x c.self.view_is)) c.requires) in
    absurd (true≢false (sym some ∙ ap (λ (o : Option ℕ). is_some o) (sym c.key_of.ensures ∙ c.in_err-key.was)))

pub returns-in_err-key-clause-taken : goal.returns-in_err-key-clause-taken
returns-in_err-key-clause-taken c =
    let a = c.self.inside in
    let x = number_of c.args.id in
    let some = keyed (under a.records)
    (get a.slots.keys x) (subst (λ (o : Option SpanRecord). IsSome o) (sym (seen_record a c.args.self.now x c.self.view_is)) c.requires) in
    absurd (true≢false (sym some ∙ ap (λ (o : Option ℕ). is_some o) (sym c.key_of.ensures ∙ c.in_err-key.was)))

pub forget-requires : goal.forget-requires
forget-requires c = within c.self.inside.extensions.items
    c.in_ok-key.key (c.self.invariant.extended (number_of c.args.id) c.in_ok-key.key (sym c.key_of.ensures ∙ c.in_ok-key.was))

pub invariant_of-self : goal.invariant_of-self
invariant_of-self c =
    keeps_rest c.self.inside c.self.invariant (number_of c.args.id)
    c.in_ok-key.key (sym c.key_of.ensures ∙ c.in_ok-key.was) c.give_back.new.self c.give_back.ensures.keys c.give_back.ensures.reserved c.remove-span.new.self
    c.remove-span.ensures.updates c.forget.new.extensions c.forget.ensures c.remove-span.ensures.len c.remove-span.ensures.slots c.remove-span.ensures.capacity

pub returns-clause-parent : goal.returns-clause-parent
returns-clause-parent c =
    let a = c.self.inside in
    let x = number_of c.args.id in
    let has = sym c.key_of.ensures ∙ c.in_ok-key.was in
    ap (option_map (λ (r : SpanRecord). r.parent))
    (sym (seen_record a c.args.self.now x c.self.view_is) ∙ ap (option_and_then (under a.records)) has ∙ c.remove-span.ensures.value)

-- one slot at most is retired
retires : (r after n m : ℕ) → (n < m → after ≡ r + 1) → (m ≤ n → after ≡ r) → (r ≤ after) × (after ≤ r + 1)
retires r after n m last not_last =
    elim (cases_lt n m) [
      | inl less ↦ let e = last less in (omega arith, omega arith)
      | inr more ↦ let e = not_last more in (omega arith, omega arith)
    ]

pub returns-clause-taken : goal.returns-clause-taken
returns-clause-taken c =
    let a = c.self.inside in
    let x = number_of c.args.id in
    let key = c.in_ok-key.key in
    let has = sym c.key_of.ensures ∙ c.in_ok-key.was in
    let gives = c.give_back.ensures in
    let seen = c.self.view_is in
    let retired = retires a.slots.retired c.give_back.new.self.retired _ _ gives.last gives.not_last in
    record {
      records = records_rest a c.self.invariant x key has c.give_back.new.self gives.keys gives.reserved c.remove-span.new.self c.remove-span.ensures.updates
          c.forget.new.extensions c.forget.ensures c.remove-span.ensures.len c.remove-span.ensures.slots c.remove-span.ensures.capacity
          ∙ ap (λ (s : KeptSpans). remove s.records x) seen;
      extensions = extensions_rest a c.self.invariant
          x key has c.give_back.new.self gives.keys gives.reserved c.remove-span.new.self c.remove-span.ensures.updates c.forget.new.extensions c.forget.ensures
          c.remove-span.ensures.len c.remove-span.ensures.slots c.remove-span.ensures.capacity ∙ ap (λ (s : KeptSpans). remove s.extensions x) seen;
      issued = gives.issued ∙ ap (λ (s : KeptSpans). s.issued) seen;
      limits = gives.limits ∙ ap (λ (s : KeptSpans). s.limits) seen;
      reserved = gives.reserved ∙ ap (λ (s : KeptSpans). s.reserved) seen;
      retired = subst (λ (s : KeptSpans). s.retired ≤ c.give_back.new.self.retired) seen retired.0;
      no_other = subst (λ (s : KeptSpans). c.give_back.new.self.retired ≤ s.retired + 1) seen retired.1;
      late = gives.late;
    }
