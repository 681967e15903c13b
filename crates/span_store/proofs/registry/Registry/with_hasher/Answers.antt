use Rattle.std.proofs.Common.{◌∙◌, ap, sym, subst}
use Rattle.std.specs.FinMap.{entries}
use Rattle.span_store.specs.private.StoreRepr.{IsKept, KeptSpans, KeptStacks, spans_of}
use Rattle.span_store.specs.Store.{RegistryState, new_registry}
use Rattle.span_store.specs.declared.span_record.SpanRecord.{SpanRecord}
use Rattle.span_store.proofs.Entries.{none}
use Rattle.span_store.proofs.Kept.{kept_empty}
use Rattle.span_store.proofs.registry.Registry.with_hasher.Goals as goal

pub invariant_of-result : goal.invariant_of-result
invariant_of-result c = record {
  kept = subst (λ (s : KeptSpans). IsKept (entries s.records)) (sym c.new.ensures) kept_empty;
  begins = λ _. ap (λ (s : KeptStacks). s.stacks) c.new-2.ensures;
}

pub returns : goal.returns
returns c =
    let k = c.new.ensures in
    let spans = ap (λ (s : KeptSpans). spans_of (entries s.records)) k ∙ ap spans_of (none SpanRecord) in
    let t = c.new-2.ensures in
    let begun : RegistryState = new_registry c.args.limits in
    λ i. record {
      store = record {
        spans = spans i;
        extensions = (ap (λ (s : KeptSpans). s.extensions) k) i;
        issued = (ap (λ (s : KeptSpans). s.issued) k) i;
        stacks = (ap (λ (s : KeptStacks). s.stacks) t) i;
      };
      limits = (ap (λ (s : KeptSpans). s.limits) k) i;
      filters = 0;
      retired = (ap (λ (s : KeptSpans). s.retired) k) i;
      reserved = record { places = (ap (λ (s : KeptSpans). s.reserved) k) i; entries = (ap (λ (s : KeptStacks). s.rooms) t) i };
    }
