use Rattle.std.proofs.Common.{◌≡◌, ◌∙◌, ap, sym}
use Rattle.std.specs.FinMap.{entries}
use Rattle.std.specs.FinSet.{len as set_len, len-empty as set_empty}
use Rattle.std.specs.Ordering.{nat_cmp}
use Rattle.span_store.specs.private.StoreRepr.{spans_of}
use Rattle.span_store.specs.private.State.{state_of}
use Rattle.span_store.specs.Store.{RegistryState, Store, empty_store}
use Rattle.span_store.specs.declared.span_record.SpanRecord.{SpanRecord}
use Rattle.span_store.proofs.Entries.{none}
use Rattle.span_store.proofs.Kept.{Records}
use Rattle.span_store.proofs.registry.Registry.is_fresh.Goals as goal

pub returns-clause-issued : goal.returns-clause-issued
returns-clause-issued c =
    let e = ap (λ (s : RegistryState). set_len s.store.issued) c.self.view_is in
    (λ t. sym e ∙ c.is_fresh.ensures.issued.0 t, λ z. c.is_fresh.ensures.issued.1 (e ∙ z))

pub returns-clause-fresh : goal.returns-clause-fresh
returns-clause-fresh c = (
  λ t.
      let k = c.is_fresh.ensures.nothing t in
      let spans = ap (λ (m : Records). spans_of (entries m)) k.records ∙ ap spans_of (none SpanRecord) in
      let stacks = c.self.invariant.begins (c.is_fresh.ensures.issued.0 t) in
      let begun : (state_of c.self.inside).store ≡ empty_store =
      λ i. record { spans = spans i; extensions = k.extensions i; issued = k.issued i; stacks = stacks i } in
      sym (ap (λ (s : RegistryState). s.store) c.self.view_is) ∙ begun,
  λ e. c.is_fresh.ensures.issued.1 (ap (λ (s : RegistryState). set_len s.store.issued) c.self.view_is
      ∙ ap (λ (s : Store). set_len s.issued) e ∙ set_empty nat_cmp),
)
