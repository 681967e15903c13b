-- What a context finds, by what the store that it looks at has.
use Rattle.std.proofs.Common.{◌≡◌, ℕ, Bool, false, cond, not, ◌&&◌, List, [], Option, None, Some, refl, sym, ap, ◌∙◌}
use Rattle.std.specs.Borrow.{Bor}
use Rattle.std.specs.FinMap.{get, get-empty}
use Rattle.std.specs.Option.{option_and_then, option_copied, option_map, option_map_or, unwrap_or}
use Rattle.std.specs.Ordering.{nat_cmp}
use Rattle.span_core.specs.Filters.{FilterSet, is_enabled, meets, refuses}
use Rattle.span_core.specs.Span.{number_of}
use Rattle.span_core.specs.declared.filter.FilterId.{FilterId}
use Rattle.span_core.specs.declared.filter.FilterMap.{FilterMap}
use Rattle.span_store.specs.LaneStack.{last_entered}
use Rattle.span_store.specs.Step.{entered_last}
use Rattle.span_store.specs.Store.{RegistryState, Span, Store, empty_store}
use Rattle.span_registry.specs.Context.{RefersTo, filters_in, store_at, store_in, view_in}
use Rattle.span_registry.specs.References.{Reference, id_of_reference, span_of_reference, subscriber_of}
use Rattle.span_registry.specs.View.{SeenSpan, View, is_shown, metadata_shown, seen_spans, shown}
use Rattle.span_registry.specs.declared.context.Context.{Context}
use Rattle.span_registry.specs.declared.scope.SpanRef.{SpanRef}
use Rattle.span_registry.proofs.Ancestry.{seen_none, seen_some, shown_some}
use Rattle.span_registry.proofs.View.{one_shown, shown_by, shown_none, shown_nowhere}

-- whether a span is shown, and none of these filters refused it
abbrev pub enabled_at : Store → FilterSet → FilterId → ℕ → Bool
enabled_at s mask filter x = is_shown (seen_spans s mask) x && option_map_or (λ r. is_enabled r.verdict filter) (get s.spans x) false

pub enabled_absent : (s : Store) (mask : FilterSet) (filter : FilterId) (x : ℕ) → get s.spans x ≡ None → enabled_at s mask filter x ≡ false
enabled_absent s mask filter x e =
    ap (λ (o : Option SeenSpan). option_map_or (λ r. not r.hidden) o false && option_map_or (λ r. is_enabled r.verdict filter) (get s.spans x) false)
    (seen_none s mask x e)

enabled_found : (s : Store) (mask : FilterSet) (filter : FilterId) (x : ℕ) (r : Span)
    → get s.spans x ≡ Some r → enabled_at s mask filter x ≡ not (meets mask (refuses r.verdict)) && is_enabled r.verdict filter
enabled_found s mask filter x r e =
    ap (λ (b : Bool). b && option_map_or (λ t. is_enabled t.verdict filter) (get s.spans x) false) (shown_some s mask x r e)
    ∙ ap (λ (o : Option Span). not (meets mask (refuses r.verdict)) && option_map_or (λ t. is_enabled t.verdict filter) o false) e

-- whether a verdict, if there is one, is of a span that the mask shows and of whose filters none of these is
abbrev pub passed_by : FilterSet → FilterId → Option FilterMap → Bool
passed_by mask filter verdict = option_map_or (λ v. not (meets mask (refuses v)) && is_enabled v filter) verdict false

-- where nothing was entered, a lane is in no span
pub entered_nowhere : (lane : ℕ) → entered_last empty_store lane ≡ None
entered_nowhere lane = ap (λ (o : Option (List ℕ)). last_entered (unwrap_or o [])) (get-empty nat_cmp lane)

module _ {S : Type 0} (registry : S → RegistryState) where
  -- of no span nothing is found
  pub finds_none : (c : Context S) (which : View → Option ℕ) → which (view_in registry c) ≡ None → RefersTo registry c which None
  finds_none c which e = record { span = sym e; subscriber = tt; reference = tt }

  pub unseen : (o : Option (Bor S)) (mask : FilterSet) (x : ℕ) → o ≡ None → one_shown (store_at registry o) mask x ≡ None
  unseen o mask x is = ap (λ (q : Option (Bor S)). one_shown (store_at registry q) mask x) is ∙ shown_nowhere mask x

  pub unfound : (o : Option (Bor S)) (b : Bor S) (mask : FilterSet) (x : ℕ)
      → o ≡ Some b → get (registry b.now).store.spans x ≡ None → one_shown (store_at registry o) mask x ≡ None
  unfound o b mask x is e = ap (λ (q : Option (Bor S)). one_shown (store_at registry q) mask x) is ∙ shown_none (registry b.now).store mask x e

  pub found : (o : Option (Bor S)) (b : Bor S) (mask : FilterSet) (x : ℕ) (r : Span) (hidden : Bool)
      → o ≡ Some b → get (registry b.now).store.spans x ≡ Some r → meets mask (refuses r.verdict) ≡ hidden
      → one_shown (store_at registry o) mask x ≡ cond hidden None (Some x)
  found o b mask x r hidden is e h =
      ap (λ (q : Option (Bor S)). one_shown (store_at registry q) mask x) is ∙ shown_by (registry b.now).store mask x r hidden e h

  -- by the verdict, if the span is there
  pub enabled_by : (o : Option (Bor S)) (b : Bor S) (mask : FilterSet) (filter : FilterId) (x : ℕ) (verdict : Option FilterMap)
      → o ≡ Some b → verdict ≡ option_map (λ (r : Span). r.verdict) (get (registry b.now).store.spans x)
      → enabled_at (store_at registry o) mask filter x ≡ passed_by mask filter verdict
  enabled_by o b mask filter x verdict is e =
      ap (λ (q : Option (Bor S)). enabled_at (store_at registry q) mask filter x) is
      ∙ by_span (get (registry b.now).store.spans x) refl ∙ ap (passed_by mask filter) (sym e)
    where
      by_span : (r : Option Span) → get (registry b.now).store.spans x ≡ r
          → enabled_at (registry b.now).store mask filter x ≡ passed_by mask filter (option_map (λ (t : Span). t.verdict) (get (registry b.now).store.spans x))
      by_span None h = enabled_absent (registry b.now).store mask filter x h
          ∙ ap (λ (q : Option Span). passed_by mask filter (option_map (λ (t : Span). t.verdict) q)) (sym h)
      by_span (Some r) h = enabled_found (registry b.now).store mask filter x r h
          ∙ ap (λ (q : Option Span). passed_by mask filter (option_map (λ (t : Span). t.verdict) q)) (sym h)

  pub store_found : (o : Option (Bor S)) (s : S) → option_copied o ≡ Some s → store_at registry o ≡ (registry s).store
  store_found None s e = let no : None ≡ Some s = e in absurd (cc)
  store_found (Some b) s e = let same : b.now ≡ s = cc in ap (λ (q : S). (registry q).store) same

  -- the metadata of a span that is found
  pub metadata_found : (c : Context S) (x : ℕ) (r : SpanRef S)
      → RefersTo registry c (shown x) (Some r) → metadata_shown x (view_in registry c) ≡ Some (span_of_reference r).metadata
  metadata_found c x r h =
      let n = number_of (id_of_reference r) in
      let s = store_in registry c in
      let kept : get s.spans n ≡ Some (span_of_reference r) =
      ap (λ (t : Store). get t.spans n) (store_found c.subscriber (subscriber_of r) h.subscriber) ∙ sym (ap (λ (q : Reference S). q.span) h.reference) in
      ap (λ (o : Option ℕ). option_and_then (λ y. option_map (λ (t : SeenSpan). t.metadata) (get (seen_spans s (filters_in c)) y)) o) (sym h.span)
      ∙ ap (λ (o : Option SeenSpan). option_map (λ (t : SeenSpan). t.metadata) o) (seen_some s (filters_in c) n (span_of_reference r) kept)
