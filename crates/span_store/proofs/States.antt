-- What a call that was made leaves of the registry.
use Rattle.std.proofs.Common.{◌≡◌, ℕ, ◌+◌, ◌-◌, ◌<◌, ◌≤◌, List, [], ◌∷◌, Option, Some, None, refl, sym, ap, subst, ◌∙◌, inl, inr, arith, is_some, OnOk, OnErr}
use Rattle.std.proofs.Common.{IfOk, IfErr, IfSome, Ok, Err, Result, Bool, true, false, zero, suc}
use Rattle.std.proofs.lemmas.Bool.{true≢false}
use Rattle.std.specs.FinMap.{entries, get, insert, remove}
use Rattle.std.specs.FinSet.{len as set_len}
use Rattle.std.specs.Option.{option_map, unwrap_or, IsSomeAnd}
use Rattle.span_core.specs.Span.{number_of}
use Rattle.span_core.specs.declared.error.TraceError.{TraceError}
use Rattle.span_core.specs.declared.span.Id.{Id}
use Rattle.span_store.specs.private.StoreRepr.{CountsAny, CountsNothing, GainsHandle, IsKept, KeptSpans, LosesHandle, RefusesGain, RefusesLoss, RetiresKept}
use Rattle.span_store.specs.private.StoreRepr.{TakesOut as TakesKept, at, cloned, counts_in, released, spans_of, with_record}
use Rattle.span_store.specs.Data.{span_of}
use Rattle.span_store.specs.private.State.{IsSound, state_of}
use Rattle.span_store.specs.Step.{Clones, RefusesClone, RefusesRelease, Releases, RetiresLate, TakesOut}
use Rattle.span_store.specs.Store.{IsClosing, IsHeld, IsInStore, IsOpen, RegistryState, Span, Spans, add_handle, child_count, handles_of, take_handle}
use Rattle.span_store.specs.Store.{with_handles, with_spans}
use Rattle.span_store.specs.declared.registry.Registry.TheInside.{Inside}
use Rattle.span_store.specs.declared.registry.Released.{Released}
use Rattle.span_store.specs.declared.span_record.Counts.{Counts}
use Rattle.span_store.specs.declared.span_record.SpanRecord.{SpanRecord}
use Rattle.span_store.proofs.Counts.{children_at}
use Rattle.span_store.proofs.Entries.{at_is}
use Rattle.span_store.proofs.Kept.{Records, changes_put, closing_iff, get_spans, kept_written, nowhere, open_iff, span_at, spans_put}

-- ---- the registry with other spans or stacks
-- only the spans differ

pub spans_written : (a : Inside) (k : KeptSpans) (m : Records) (now : RegistryState) (f : Spans → Spans)
    → state_of a ≡ now → k ≡ record a.spans { records = m } → spans_of (entries m) ≡ f (spans_of (entries (a.spans).records))
    → state_of (record a { spans = k }) ≡ with_spans now (f now.store.spans)
spans_written a k m now f v is e =
    ap (λ (u : KeptSpans). state_of (record a { spans = u })) is ∙ ap (with_spans (state_of a)) e ∙ ap (λ (s : RegistryState). with_spans s (f s.store.spans)) v

-- a span was taken out, and then perhaps counts were written
pub spans_removed : (a : Inside) (id : Id) (mid new : KeptSpans) (now : RegistryState) → state_of a ≡ now → TakesKept id a.spans mid
    → new ≡ record mid { records = new.records } → spans_of (entries new.records) ≡ remove (spans_of (entries (a.spans).records)) (number_of id)
    → TakesOut now (number_of id ∷ []) (state_of (record a { spans = new })) × RetiresLate (state_of (record a { spans = new }))
spans_removed a id mid new now v t is e =
    let before : RegistryState = state_of a in
    let retired : new.retired ≡ mid.retired = ap (λ (u : KeptSpans). u.retired) is in
    let issued = ap (λ (u : KeptSpans). u.issued) is ∙ t.issued in
    let limits = ap (λ (u : KeptSpans). u.limits) is ∙ t.limits in
    let gone = ap (λ (u : KeptSpans). u.extensions) is ∙ t.extensions in
    let late : RetiresKept new = subst (λ (u : KeptSpans). RetiresKept u) (sym is) t.late in
    subst (λ (s : RegistryState). TakesOut s (number_of id ∷ []) (state_of (record a { spans = new })) × RetiresLate (state_of (record a { spans = new }))) v (
      record {
        store = λ i. record before.store { spans = e i; extensions = gone i; issued = issued i };
        limits = limits;
        filters = refl;
        reserved = ap (λ (n : ℕ). record before.reserved { places = n }) (ap (λ (u : KeptSpans). u.reserved) is ∙ t.reserved);
        retired = (let r = t.retired in omega arith);
        no_other = (let r = t.no_other in omega arith);
        late = λ _. late;
      },
      late,
    )

-- the span that the store has
pub span_got : (m : Records) (x : ℕ) → get (spans_of (entries m)) x ≡ option_map span_of (get m x)
span_got m x = get_spans (entries m) x ∙ ap (option_map span_of) (at_is m x)

-- the spans with a record are those in the store
pub in_store_by : (m : Records) (s : Spans) (x : ℕ) → spans_of (entries m) ≡ s → is_some (get m x) ≡ true → IsInStore s x
in_store_by m s x v some = by_case (get m x) refl some
  where
    by_case : (o : Option SpanRecord) → get m x ≡ o → is_some (get m x) ≡ true → IsInStore s x
    by_case None e t = absurd (true≢false (sym t ∙ ap is_some e))
    by_case (Some r) e t = subst (λ (w : Spans). IsInStore w x) v (span_of r, span_at (entries m) x r (at_is m x ∙ e))

pub not_in_store_by : (m : Records) (s : Spans) (x : ℕ) → spans_of (entries m) ≡ s → is_some (get m x) ≡ false → IsInStore s x → ⊥
not_in_store_by m s x v none there = by_case (get m x) refl none
  where
    by_case : (o : Option SpanRecord) → get m x ≡ o → is_some (get m x) ≡ false → ⊥
    by_case None e f = nowhere (entries m) s x v (at_is m x ∙ e) there
    by_case (Some r) e f = true≢false (sym (ap is_some e) ∙ f)

pub there_by : (m : Records) (s : Spans) (x : ℕ) (b : Bool)
    → spans_of (entries m) ≡ s → b ≡ is_some (get m x) → (b ≡ true → IsInStore s x) × (IsInStore s x → b ≡ true)
there_by m s x true v e = (λ _. in_store_by m s x v (sym e), λ _. refl)
there_by m s x false v e = (λ t. absurd (true≢false (sym t)), λ there. absurd (not_in_store_by m s x v (sym e) there))

-- ---- the counts of a span
-- counts that are found in the map are found among its entries

pub counted : (s : KeptSpans) (id : Id) (o : Option Counts)
    → o ≡ option_map counts_in (get s.records (number_of id)) → o ≡ option_map counts_in (at (number_of id) (entries s.records))
counted s id o e = e ∙ ap (option_map counts_in) (sym (at_is s.records (number_of id)))

-- the record that has these counts
found : (es : List (ℕ × SpanRecord)) (x : ℕ) (k : Counts) → Some k ≡ option_map counts_in (at x es) → (r : SpanRecord) × (at x es ≡ Some r) × (k ≡ counts_in r)
found es x k e = by_case (at x es) refl e
  where
    by_case : (o : Option SpanRecord) → at x es ≡ o → Some k ≡ option_map counts_in o → (r : SpanRecord) × (at x es ≡ Some r) × (k ≡ counts_in r)
    by_case None a h = let no : ⊥ = cc in absurd no
    by_case (Some r) a h = (r, a, cc)

not_found : (es : List (ℕ × SpanRecord)) (x : ℕ) → None ≡ option_map counts_in (at x es) → at x es ≡ None
not_found es x e = by_case (at x es) refl e
  where
    by_case : (o : Option SpanRecord) → at x es ≡ o → None ≡ option_map counts_in o → at x es ≡ None
    by_case None a h = a
    by_case (Some r) a h = let no : ⊥ = cc in absurd no

-- a span that isn't there isn't open
pub absent : (es : List (ℕ × SpanRecord)) (m : Spans) (x : ℕ) → spans_of es ≡ m → None ≡ option_map counts_in (at x es) → IsOpen m x → ⊥
absent es m x v e o = nowhere es m x v (not_found es x e) (o.0, o.1)

-- a span is open exactly where the counts say so
pub open_by : (es : List (ℕ × SpanRecord)) (x : ℕ) (k : Counts) (m : Spans) → IsKept es → spans_of es ≡ m → Some k ≡ option_map counts_in (at x es)
    → (CountsAny k → IsOpen m x) × (IsOpen m x → CountsAny k)
open_by es x k m h v e =
    let f = found es x k e in
    let iff = open_iff es x f.0 h f.1 in (
      λ any. subst (λ (w : Spans). IsOpen w x) v (iff.0 (subst CountsAny f.2 any)),
      λ o. subst CountsAny (sym f.2) (iff.1 (subst (λ (w : Spans). IsOpen w x) (sym v) o)),
    )

-- it has so many children as the counts say
pub children_by : (es : List (ℕ × SpanRecord)) (x : ℕ) (k : Counts) (m : Spans)
    → IsKept es → spans_of es ≡ m → Some k ≡ option_map counts_in (at x es) → child_count m x ≡ k.children
children_by es x k m h v e =
    let f = found es x k e in
    ap (λ (w : Spans). child_count w x) (sym v) ∙ children_at es x f.0 h f.1 ∙ sym (ap (λ (c : Counts). c.children) f.2)

-- a span is closing exactly where its record counts nothing
closing_by : (es : List (ℕ × SpanRecord)) (x : ℕ) (r : SpanRecord) → IsKept es → at x es ≡ Some r
    → ((CountsAny (counts_in r) → ⊥) → IsClosing (spans_of es) x) × (IsClosing (spans_of es) x → CountsAny (counts_in r) → ⊥)
closing_by es x r h e =
    let iff = closing_iff es x r h e in (
      λ shut. iff.0 (none r.handles (λ l. shut (inl l)), none r.children (λ l. shut (inr l))),
      λ c any.
          let z = iff.1 c in
          let hs : r.handles ≡ 0 = z.0 in
          let cs : r.children ≡ 0 = z.1 in
          elim any [ inl l ↦ absurd (omega arith) | inr l ↦ absurd (omega arith) ],
    )
  where
    none : (a : ℕ) → (0 < a → ⊥) → a ≡ 0
    none zero l = refl
    none (suc a) l = absurd (l (omega arith))

-- ---- other handles are written
-- x has this record in the old records, and in the new ones the same with these handles

record Written (m w : Records) (x handles : ℕ) (r : SpanRecord) : Type 0 where
  pub kept : IsKept (entries w)
  pub was : get (spans_of (entries m)) x ≡ Some (span_of r)
  pub spans : spans_of (entries w) ≡ insert (spans_of (entries m)) x (record (span_of r) { handles = handles })
  pub there : at x (entries w) ≡ Some (record r { handles = handles })

written : (m w : Records) (x handles : ℕ) (r : SpanRecord)
    → IsKept (entries m) → get m x ≡ Some r → w ≡ insert m x (record r { handles = handles }) → Written m w x handles r
written m w x handles r h got is =
    let new : SpanRecord = record r { handles = handles } in
    let ch = changes_put m x new in
    record {
      kept = subst (λ (v : Records). IsKept (entries v)) (sym is) (kept_written m x r new h got refl refl);
      was = span_at (entries m) x r (at_is m x ∙ got);
      spans = ap (λ (v : Records). spans_of (entries v)) is ∙ spans_put (entries m) (entries (insert m x new)) x new ch;
      there = ap (λ (v : Records). at x (entries v)) is ∙ ch.there;
    }

-- where only the records are written, nothing else of the registry changes
rest_kept : (old new : KeptSpans) (x : ℕ) (r : SpanRecord) → new ≡ with_record old x r → new ≡ record old { records = new.records }
rest_kept old new x r e = e ∙ ap (λ (m : Records). record old { records = m }) (sym (ap (λ (u : KeptSpans). u.records) e))

sound_written : (a : Inside) (new : KeptSpans)
    → IsSound a → IsKept (entries new.records) → new ≡ record a.spans { records = new.records } → IsSound (record a { spans = new })
sound_written a new sound kept rest = record { kept = kept; begins = λ none. sound.begins (sym (ap (λ (s : KeptSpans). set_len s.issued) rest) ∙ none) }

-- a record with a handle is that of a held span
held_at : (a : Inside) (now : RegistryState) (x : ℕ) (r : SpanRecord)
    → state_of a ≡ now → get (a.spans).records x ≡ Some r → 0 < r.handles → IsHeld now.store.spans x
held_at a now x r v got held =
    subst (λ (s : RegistryState). IsHeld s.store.spans x) v (span_of r, span_at (entries (a.spans).records) x r (at_is (a.spans).records x ∙ got), held)

not_held_at : (a : Inside) (now : RegistryState) (x : ℕ) (r : SpanRecord)
    → state_of a ≡ now → get (a.spans).records x ≡ Some r → r.handles ≡ 0 → IsHeld now.store.spans x → ⊥
not_held_at a now x r v got none held =
    let h = subst (λ (s : RegistryState). IsHeld s.store.spans x) (sym v) held in
    let both : Some h.0 ≡ Some (span_of r) = sym h.1 ∙ span_at (entries (a.spans).records) x r (at_is (a.spans).records x ∙ got) in
    let same : h.0 ≡ span_of r = cc in
    let handles : (h.0).handles ≡ r.handles = ap (λ (s : Span). s.handles) same in
    let l : 0 < (h.0).handles = h.2 in
    absurd (omega arith)

handles_at : (m : Records) (x : ℕ) (r : SpanRecord) → get m x ≡ Some r → handles_of (spans_of (entries m)) x ≡ r.handles
handles_at m x r got = ap (λ (o : Option Span). unwrap_or (option_map (λ s. s.handles) o) 0) (span_at (entries m) x r (at_is m x ∙ got))

-- a record is that of an open span where it counts something
open_at : (a : Inside) (now : RegistryState) (x : ℕ) (r : SpanRecord) → state_of a ≡ now
    → IsSound a → get (a.spans).records x ≡ Some r → (CountsAny (counts_in r) → IsOpen now.store.spans x) × (IsOpen now.store.spans x → CountsAny (counts_in r))
open_at a now x r v sound got =
    let m = (a.spans).records in
    open_by (entries m)
    x (counts_in r) now.store.spans sound.kept (ap (λ (s : RegistryState). s.store.spans) v) (ap (option_map counts_in) (sym (at_is m x ∙ got)))

-- a span that nothing is counted for isn't open
not_open : (a : Inside) (now : RegistryState) (id : Id) → state_of a ≡ now → IsSound a → CountsNothing a.spans id → IsOpen now.store.spans (number_of id) → ⊥
not_open a now id v sound n o = by_case (get (a.spans).records (number_of id)) refl n
  where
    by_case : (q : Option SpanRecord) → get (a.spans).records (number_of id) ≡ q → IfSome q (λ r. CountsAny (counts_in r) → ⊥) → ⊥
    by_case None e t = nowhere (entries (a.spans).records)
        now.store.spans (number_of id) (ap (λ (s : RegistryState). s.store.spans) v) (at_is (a.spans).records (number_of id) ∙ e) (o.0, o.1)
    by_case (Some r) e t = t ((open_at a now (number_of id) r v sound e).1 o)

-- ---- a handle is taken away

loses_handle : (a : Inside) (now : RegistryState) (id : Id) (answer : Released) (new : KeptSpans)
    → state_of a ≡ now → IsSound a → LosesHandle id answer a.spans new
    → IsSound (record a { spans = new }) × Releases id answer now (state_of (record a { spans = new }))
loses_handle a now id answer new v sound l =
    let m = (a.spans).records in
    let x = number_of id in
    let rest = rest_kept a.spans new x (released l.span) l.state in
    let w = written m new.records x ((l.span).handles - 1) l.span sound.kept l.found (ap (λ (u : KeptSpans). u.records) l.state) in
    let shut = closing_by (entries new.records) x (released l.span) w.kept w.there in
    let iff = open_iff (entries new.records) x (released l.span) w.kept w.there in (
      sound_written a new sound w.kept rest,
      record {
        held = held_at a now x l.span v l.found l.held;
        state = spans_written a
            new new.records now (λ (s : Spans). take_handle s x) v rest (w.spans ∙ ap (with_handles (λ n. n - 1) (spans_of (entries m)) x) (sym w.was));
        closing = (λ e. shut.0 (l.closing.0 e), λ c. l.closing.1 (shut.1 c));
        still_open = (λ e. iff.0 (l.still_open.0 e), λ o. l.still_open.1 (iff.1 o));
      },
    )

pub sound_released : (a : Inside) (now : RegistryState) (id : Id) (answer : Result Released TraceError) (new : KeptSpans)
    → state_of a ≡ now → IsSound a → IfOk answer (λ r. LosesHandle id r a.spans new) → OnErr answer (new ≡ a.spans) → IsSound (record a { spans = new })
sound_released a now id (Ok r) new v sound l same = (loses_handle a now id r new v sound l).0
sound_released a now id (Err e) new v sound l same = subst (λ (k : KeptSpans). IsSound (record a { spans = k })) (sym same) sound

pub releases : (a : Inside) (now : RegistryState) (id : Id) (answer : Result Released TraceError) (new : KeptSpans) → state_of a ≡ now
    → IsSound a → IfOk answer (λ r. LosesHandle id r a.spans new) → IfOk answer (λ r. Releases id r now (state_of (record a { spans = new })))
releases a now id (Ok r) new v sound l = (loses_handle a now id r new v sound l).1
releases a now id (Err e) new v sound l = tt

refuses_loss : (a : Inside) (now : RegistryState) (id : Id) (e : TraceError) → state_of a ≡ now → IsSound a → RefusesLoss a.spans id e → RefusesRelease now id e
refuses_loss a now id e v sound (inl k) = inl (k.0, not_open a now id v sound k.1)
refuses_loss a now id e v sound (inr k) = let b = by_case (get (a.spans).records (number_of id)) refl k.1 in inr (k.0, b.0, b.1)
  where
    by_case : (q : Option SpanRecord) → get (a.spans).records (number_of id) ≡ q
        → IsSomeAnd q (λ r. CountsAny (counts_in r) × (r.handles ≡ 0)) → IsOpen now.store.spans (number_of id) × (IsHeld now.store.spans (number_of id) → ⊥)
    by_case None e u = absurd u
    by_case (Some r) e u = ((open_at a now (number_of id) r v sound e).0 u.0, not_held_at a now (number_of id) r v e u.1)

pub refuses_release : (a : Inside) (now : RegistryState) (id : Id) (answer : Result Released TraceError)
    → state_of a ≡ now → IsSound a → IfErr answer (RefusesLoss a.spans id) → IfErr answer (RefusesRelease now id)
refuses_release a now id (Ok r) v sound k = tt
refuses_release a now id (Err e) v sound k = refuses_loss a now id e v sound k

-- ---- a handle is added

pub gains_handle : (a : Inside) (now : RegistryState) (id : Id) (new : KeptSpans) → state_of a ≡ now → IsSound a → GainsHandle id a.spans new
    → IsSound (record a { spans = new }) × Clones id now (state_of (record a { spans = new }))
gains_handle a now id new v sound g =
    let m = (a.spans).records in
    let x = number_of id in
    let rest = rest_kept a.spans new x (cloned g.span) g.state in
    let w = written m new.records x ((g.span).handles + 1) g.span sound.kept g.found (ap (λ (u : KeptSpans). u.records) g.state) in (
      sound_written a new sound w.kept rest,
      record {
        is_open = (open_at a now x g.span v sound g.found).0 g.counts;
        room = subst (λ (s : RegistryState). handles_of s.store.spans x < s.limits.count)
            v (subst (λ (n : ℕ). n < (a.spans).limits.count) (sym (handles_at m x g.span g.found)) g.room);
        state = spans_written a
            new new.records now (λ (s : Spans). add_handle s x) v rest (w.spans ∙ ap (with_handles (λ n. n + 1) (spans_of (entries m)) x) (sym w.was));
      },
    )

pub refuses_clone : (a : Inside) (now : RegistryState) (id : Id) (e : TraceError)
    → state_of a ≡ now → IsSound a → RefusesGain a.spans id e → RefusesClone now id e
refuses_clone a now id e v sound (inl k) = inl (k.0, not_open a now id v sound k.1)
refuses_clone a now id e v sound (inr k) = let b = by_case (get (a.spans).records (number_of id)) refl k.1 in inr (k.0, b.0, b.1)
  where
    by_case : (q : Option SpanRecord)
        → get (a.spans).records (number_of id) ≡ q → IsSomeAnd q (λ r. CountsAny (counts_in r) × ((a.spans).limits.count ≤ r.handles))
        → IsOpen now.store.spans (number_of id) × (now.limits.count ≤ handles_of now.store.spans (number_of id))
    by_case None e u = absurd u
    by_case (Some r) e u = (
      (open_at a now (number_of id) r v sound e).0 u.0,
      subst (λ (s : RegistryState). s.limits.count ≤ handles_of s.store.spans (number_of id))
          v (subst (λ (n : ℕ). (a.spans).limits.count ≤ n) (sym (handles_at (a.spans).records (number_of id) r e)) u.1),
    )

-- ---- results

pub on_err_any : {T E P : Type 0} (r : Result T E) → P → OnErr r P
on_err_any (Ok x) p = tt
on_err_any (Err e) p = p

pub on_ok_map : {T E P Q : Type 0} (r : Result T E) → OnOk r P → (P → Q) → OnOk r Q
on_ok_map (Ok x) h f = f h
on_ok_map (Err e) h f = tt

pub on_err_map : {T E P Q : Type 0} (r : Result T E) → OnErr r P → (P → Q) → OnErr r Q
on_err_map (Ok x) h f = tt
on_err_map (Err e) h f = f h

pub if_err_map : {T E : Type 0} {P Q : E → Type 0} (r : Result T E) → IfErr r P → ((e : E) → P e → Q e) → IfErr r Q
if_err_map (Ok x) h f = tt
if_err_map (Err e) h f = f e h
