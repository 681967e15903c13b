-- What taking a span out, and a child from its parent, leaves of what is kept.
use Rattle.std.proofs.Common.{◌≡◌, ℕ, Option, Some, None, IfSome, sym, ap, subst, ◌∙◌}
use Rattle.std.specs.FinMap.{entries, get, insert, remove}
use Rattle.std.specs.Option.{IsSomeAnd, option_map}
use Rattle.span_core.specs.Span.{number_of}
use Rattle.span_core.specs.declared.span.Id.{Id}
use Rattle.span_store.specs.private.StoreRepr.{CountsOneChild, HasRecord, KeptSpans, TakesOut, Writes, fewer}
use Rattle.span_store.specs.declared.span_record.SpanRecord.{SpanRecord}
use Rattle.span_store.proofs.Kept.{Records}
use Rattle.span_store.proofs.Removed.{ChildGone, Removal, child_gone}

some_map : {P Q : SpanRecord → Type 0} (o : Option SpanRecord) → ((r : SpanRecord) → P r → Q r) → IsSomeAnd o P → IsSomeAnd o Q
some_map None f h = h
some_map (Some r) f h = f r h

some_gives : {P : SpanRecord → Type 0} {Q : Type 0} (o : Option SpanRecord) → ((r : SpanRecord) → P r → Q) → IsSomeAnd o P → Q
some_gives None f h = absurd h
some_gives (Some r) f h = f r h

-- a record that is written changes the records alone
pub writes_records : (id : Id) (f : SpanRecord → SpanRecord) (old new : KeptSpans) → Writes id f old new → new ≡ record old { records = new.records }
writes_records id f old new w =
    some_gives (get old.records (number_of id)) (λ r h. h ∙ ap (λ (m : Records). record old { records = m }) (sym (ap (λ (u : KeptSpans). u.records) h))) w

pub record ChildLost (old mid new : KeptSpans) (x : ℕ) (p : Id) (next : Option Id) : Type 0 where
  pub gone : ChildGone old.records new.records x p next
  pub rest : new ≡ record mid { records = new.records }

pub child_lost : (old mid new : KeptSpans) (id p : Id) (next : Option Id) → (r : SpanRecord) × Removal (entries old.records)
    (entries (remove old.records (number_of id))) (number_of id) r → option_map (λ s. s.parent) (get old.records (number_of id)) ≡ Some (Some p)
    → TakesOut id old mid → Writes p fewer mid new → IfSome next (λ i. (i ≡ p) × HasRecord mid p CountsOneChild)
    → (next ≡ None → HasRecord mid p (λ r. CountsOneChild r → ⊥)) → ChildLost old mid new (number_of id) p next
child_lost old mid new id p next u e t wrote closes stays =
    let q : ℕ = number_of p in
    let changed : IsSomeAnd (get mid.records q) (λ r. new.records ≡ insert mid.records q (fewer r)) =
    some_map (get mid.records q) (λ r h. ap (λ (k : KeptSpans). k.records) h) wrote in
    record {
      gone = child_gone old.records new.records (number_of id) p next u e
          (subst (λ (m : Records). IsSomeAnd (get m q) (λ r. new.records ≡ insert m q (fewer r))) t.records changed)
          (subst (λ (m : Records). IfSome next (λ i. (i ≡ p) × IsSomeAnd (get m q) CountsOneChild)) t.records closes)
          (λ none. subst (λ (m : Records). IsSomeAnd (get m q) (λ r. CountsOneChild r → ⊥)) t.records (stays none));
      rest = writes_records p fewer mid new wrote;
    }
