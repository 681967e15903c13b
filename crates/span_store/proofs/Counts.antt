use Rattle.std.proofs.Common.{◌≡◌, ℕ, ◌+◌, List, [], ◌∷◌, length, refl, sym, ap, ◌∙◌, map, cond, arith, suc, Some}
use Rattle.std.proofs.lemmas.List.Sums.{sum_by-cons}
use Rattle.std.specs.Cmp.{nat_cmp_total}
use Rattle.std.specs.FinMap.Entries.{by_order}
use Rattle.std.specs.FinMap.{empty, entries, entries-insert, len, len-empty, len-entries, put}
use Rattle.std.specs.List.Sorted.{IsStrictlySortedBy}
use Rattle.std.specs.List.{AllByRecursion, count_by}
use Rattle.std.specs.Map.{keys_of, values_of}
use Rattle.std.specs.Ordering.{nat_cmp}
use Rattle.std.specs.declared.cmp.Ordering.TheVariants.{Less}
use Rattle.std.specs.declared.cmp.Ordering.{Ordering}
use Rattle.span_store.proofs.Entries.{ordered}
use Rattle.span_store.proofs.Kept.{Records}
use Rattle.span_store.specs.private.StoreRepr.{IsKept, at, children_of, spans_in, spans_of}
use Rattle.span_store.specs.Data.{parent_in, span_of}
use Rattle.span_store.specs.Store.{Span, child_count, is_parent}
use Rattle.span_store.specs.declared.span_record.SpanRecord.{SpanRecord}

no_entries : (es : List (ℕ × Span)) → length es ≡ 0 → es ≡ []
no_entries [] e = refl
no_entries (x ∷ xs) e = absurd (omega arith)

put_front : (k : ℕ) (v : Span) (es : List (ℕ × SpanRecord))
    → AllByRecursion (λ y. nat_cmp k y ≡ Less) (keys_of es) → put nat_cmp k v (spans_in es) ≡ (k, v) ∷ spans_in es
put_front k v [] h = refl
put_front k v (e ∷ es) h =
    ap (λ (o : Ordering). by_order o ((k, v) ∷ (e.0, span_of e.1) ∷ spans_in es) ((e.0, v) ∷ spans_in es) ((e.0, span_of e.1) ∷ put nat_cmp k v (spans_in es)))
    h.0

pub entries_of : (es : List (ℕ × SpanRecord)) → IsStrictlySortedBy nat_cmp (keys_of es) → entries (spans_of es) ≡ spans_in es
unfolding IsStrictlySortedBy
entries_of [] h = no_entries (entries (empty {X = Span} {R = nat_cmp})) (sym (len-entries (empty {X = Span} {R = nat_cmp})) ∙ len-empty nat_cmp Span)
entries_of (e ∷ es) h =
    entries-insert nat_cmp_total (spans_of es) e.0 (span_of e.1) ∙ ap (put nat_cmp e.0 (span_of e.1)) (entries_of es h.1) ∙ put_front e.0 (span_of e.1) es h.0

counted_in : (es : List (ℕ × SpanRecord)) (x : ℕ) → count_by (λ s. is_parent x s.parent) (map (λ e. e.1) (spans_in es)) ≡ children_of es x
counted_in [] x = refl
counted_in (e ∷ es) x =
    sum_by-cons (λ s. cond {A = ℕ} (is_parent x s.parent) 1 0) (span_of e.1) (map (λ e. e.1) (spans_in es))
    ∙ ap (λ (n : ℕ). cond (is_parent x (parent_in e.1)) 1 0 + n) (counted_in es x)
    ∙ sym (sum_by-cons (λ r. cond {A = ℕ} (is_parent x (parent_in r)) 1 0) e.1 (values_of es))

-- the code's count is the store's
pub count_is : (es : List (ℕ × SpanRecord)) (x : ℕ) → IsStrictlySortedBy nat_cmp (keys_of es) → child_count (spans_of es) x ≡ children_of es x
count_is es x h = ap (λ (us : List (ℕ × Span)). count_by (λ s. is_parent x s.parent) (map (λ e. e.1) us)) (entries_of es h) ∙ counted_in es x

pub length_in : (es : List (ℕ × SpanRecord)) → length (spans_in es) ≡ length es
length_in [] = refl
length_in (e ∷ es) = ap suc (length_in es)

len_is : (es : List (ℕ × SpanRecord)) → IsStrictlySortedBy nat_cmp (keys_of es) → len (spans_of es) ≡ length es
len_is es h = len-entries (spans_of es) ∙ ap length (entries_of es h) ∙ length_in es

-- how many spans there are
pub len_kept : (m : Records) → len (spans_of (entries m)) ≡ len m
len_kept m = len_is (entries m) (ordered m) ∙ sym (len-entries m)

-- a record counts the children of its span
pub children_at : (es : List (ℕ × SpanRecord)) (x : ℕ) (r : SpanRecord) → IsKept es → at x es ≡ Some r → child_count (spans_of es) x ≡ r.children
children_at es x r h e = count_is es x h.ordered ∙ sym (h.counted x r e)
