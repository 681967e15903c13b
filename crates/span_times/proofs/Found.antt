-- What a hook finds is what its view shows, extensions aside.
use Rattle.std.proofs.Common.{◌≡◌, ◌∙◌, ℕ, Option, Some, None, ap, refl, subst, sym}
use Rattle.std.specs.Borrow.{Bor}
use Rattle.std.specs.FinMap.{get}
use Rattle.std.specs.Option.{option_and_then, option_copied, option_map}
use Rattle.span_core.specs.Event.{event_metadata, event_parent}
use Rattle.span_core.specs.Filters.{FilterSet}
use Rattle.span_core.specs.Metadata.{callsite_of}
use Rattle.span_core.specs.Span.{id_of, metadata_of, number_of}
use Rattle.span_core.specs.declared.span.Id.{Id}
use Rattle.span_store.specs.Store.{RegistryState, Store}
use Rattle.span_registry.proofs.Ancestry.{parent_some}
use Rattle.span_registry.proofs.CallerLemmas.{view_lent_on}
use Rattle.span_registry.specs.Behaviour.{Notice, OnClose, OnEnter, OnEvent, OnExit, OnFollows, OnIdChange, OnNewSpan, OnRecord}
use Rattle.span_registry.specs.Context.{LooksAtLent, RefersTo, filters_in, store_at, view_in, view_lent}
use Rattle.span_registry.specs.Law.{ShowsPlainly}
use Rattle.span_registry.specs.References.{Reference, id_of_reference, mask_of, parent_of_reference, reference_of, reference_to, span_of_reference}
use Rattle.span_registry.specs.References.{subscriber_of}
use Rattle.span_registry.specs.View.{View, nearest_shown, parent_shown, plain_view, seen_spans, shown, view_of}
use Rattle.span_registry.specs.declared.context.Context.{Context}
use Rattle.span_registry.specs.declared.context.ContextMut.{ContextMut}
use Rattle.span_registry.specs.declared.scope.SpanRef.{SpanRef}
use Rattle.span_times.specs.Timeline.{happening_of, parent_found}
use Rattle.span_times.specs.declared.happening.Happening.TheVariants.{Opened, Sent}

-- ---- references stand for their spans

-- the id of a reference, if there is one
abbrev pub id_in : {S : Type 0} → Option (SpanRef S) → Option Id
id_in o = option_map (λ r. id_of_reference r) o

abbrev number_in : {S : Type 0} → Option (SpanRef S) → Option ℕ
number_in o = option_map (λ r. number_of (id_of_reference r)) o

by_number : {S : Type 0} (o : Option (SpanRef S)) → id_in o ≡ option_map id_of (number_in o)
by_number None = refl
by_number (Some r) = refl

by_reference : {S : Type 0} (o : Option (SpanRef S)) → number_in o ≡ option_map (λ (f : Reference S). f.id) (option_map reference_of o)
by_reference None = refl
by_reference (Some r) = refl

referred : {S : Type 0} (registry : S → RegistryState) (s : S) (mask : FilterSet) (o : Option ℕ)
    → option_map (λ (f : Reference S). f.id) (option_map (reference_to registry s mask) o) ≡ o
referred registry s mask None = refl
referred registry s mask (Some x) = refl

store_looked_at : {S : Type 0} (registry : S → RegistryState) (o : Option (Bor S)) (s : S) → option_copied o ≡ Some s → store_at registry o ≡ (registry s).store
store_looked_at registry None s e = absurd (cc)
store_looked_at registry (Some b) s e = let k : b.now ≡ s = cc in ap (λ x. (registry x).store) k

module _ {S : Type 0} (registry : S → RegistryState) (c : ContextMut S) (look : Context S) (lent : LooksAtLent c look) where
  -- the span of an event
  pub event_found : (which : View → Option ℕ) (found : Option (SpanRef S))
      → RefersTo registry look which found → id_in found ≡ option_map id_of (which (view_lent registry c))
  event_found which found h = by_number found ∙ ap (option_map id_of) (h.span ∙ ap which (view_lent_on registry c look lent))

  -- the parent above a span that was found
  above : (x : ℕ) (r : SpanRef S) (parent : Option (SpanRef S))
      → RefersTo registry look (shown x) (Some r) → option_map reference_of parent ≡ parent_of_reference registry r
      → number_in parent ≡ parent_shown (view_in registry look).spans (number_of (id_of_reference r))
  above x r parent h up =
      let s = subscriber_of r in
      let n = number_of (id_of_reference r) in
      let m = seen_spans (registry s).store (filters_in look) in
      let mask : mask_of r ≡ filters_in look = ap (λ (q : Reference S). q.mask) h.reference in
      let kept : get (registry s).store.spans n ≡ Some (span_of_reference r) = sym (ap (λ (q : Reference S). q.span) h.reference) in
      by_reference parent ∙ ap (option_map (λ (q : Reference S). q.id)) up
      ∙ referred registry s (mask_of r) (nearest_shown (seen_spans (registry s).store (mask_of r)) (span_of_reference r).parent)
      ∙ ap (λ (f : FilterSet). nearest_shown (seen_spans (registry s).store f) (span_of_reference r).parent) mask
      ∙ ap (nearest_shown m) (sym (parent_some (registry s).store (filters_in look) n (span_of_reference r) kept))
      ∙ ap (λ (t : Store). parent_shown (seen_spans t (filters_in look)) n) (sym (store_looked_at registry look.subscriber s h.subscriber))

  pub parent_of_found : (x : ℕ) (found : Option (SpanRef S)) (r : SpanRef S) (parent : Option (SpanRef S))
      → found ≡ Some r → RefersTo registry look (shown x) found → option_map reference_of parent ≡ parent_of_reference registry r
      → id_in parent ≡ parent_found x (view_lent registry c)
  parent_of_found x found r parent some h up =
      let there : Some (number_of (id_of_reference r)) ≡ shown x (view_in registry look) = ap number_in (sym some) ∙ h.span in
      let found_so : RefersTo registry look (shown x) (Some r) = subst (λ (o : Option (SpanRef S)). RefersTo registry look (shown x) o) some h in
      by_number parent ∙ ap (option_map id_of) (above x r parent found_so up)
      ∙ ap (λ o. option_map id_of (option_and_then (parent_shown (view_in registry look).spans) o)) there
      ∙ ap (parent_found x) (view_lent_on registry c look lent)

-- ---- extensions make no difference

module _ (s : Store) (lane : ℕ) (mask : FilterSet) (law : ShowsPlainly s lane mask) where
  above_plainly : (o : Option ℕ)
      → option_and_then (parent_shown (view_of s lane mask).spans) o ≡ option_and_then (parent_shown (plain_view s lane mask).spans) o
  above_plainly None = refl
  above_plainly (Some x) = law.parent x

  parent_plainly : (x : ℕ) → parent_found x (view_of s lane mask) ≡ parent_found x (plain_view s lane mask)
  parent_plainly x =
      ap (option_map id_of) (ap (option_and_then (parent_shown (view_of s lane mask).spans)) (law.shown x) ∙ above_plainly (shown x (plain_view s lane mask)))

  pub happening_plainly : (e : Notice) → happening_of e (view_of s lane mask) ≡ happening_of e (plain_view s lane mask)
  happening_plainly (OnNewSpan attrs id) = ap (Opened id (callsite_of (metadata_of attrs))) (parent_plainly (number_of id))
  happening_plainly (OnEvent e) = ap (λ o. Sent (callsite_of (event_metadata e)) (option_map id_of o)) (law.event (event_parent e))
  happening_plainly (OnRecord id values) = refl
  happening_plainly (OnFollows id other) = refl
  happening_plainly (OnEnter id) = refl
  happening_plainly (OnExit id) = refl
  happening_plainly (OnIdChange id other) = refl
  happening_plainly (OnClose id) = refl
