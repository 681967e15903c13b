-- How a layer under a filter is notified: where its filter lets the notice by, and not else.
use Rattle.std.proofs.Common.{◌≡◌, ℕ, Bool, true, false, not, ◌&&◌, Option, Some, None, refl, sym, ap, subst, ◌∙◌}
use Rattle.std.proofs.Math.Path.{transport}
use Rattle.std.proofs.lemmas.Bool.{false≢true}
use Rattle.std.specs.Option.{option_map_or}
use Rattle.std.specs.Prelude.{if◌then◌else◌}
use Rattle.span_core.specs.Filters.{FilterSet, has_filter, is_enabled, refuses, union}
use Rattle.span_core.specs.declared.filter.FilterId.{FilterId}
use Rattle.span_core.specs.declared.span.Id.{Id}
use Rattle.span_filters.specs.Filter.{FilterSteps, Notified as FilterNotified}
use Rattle.span_stacks.proofs.FilterNumber.{enabled_at, passed_where_enabled}
use Rattle.span_stacks.specs.Filtered.{FilteredForm, FilteredSteps, Hooked, IsNumber}
use Rattle.span_layers.specs.Layer.{LayerSteps, Notified}
use Rattle.span_stacks.specs.declared.filtered.Filtered.{Filtered as FilteredLayer}
use Rattle.span_store.specs.Store.{RegistryState, Spans}
use Rattle.span_registry.specs.Behaviour.{Behaviour, Notice, OnClose, OnEnter, OnEvent, OnExit, OnFollows, OnIdChange, OnNewSpan, OnRecord}
use Rattle.span_registry.specs.Context.{HandsOn, MasksMore, WritesExtensions, enabled_lent, filters_lent, lane_lent, refused_lent, subscriber_lent, with_mask}
use Rattle.span_registry.specs.Form.{Terminal, Filtered, Form, Leaf, Parts}
use Rattle.span_registry.specs.Notice.{is_admitted}
use Rattle.span_registry.specs.Plan.{Nobody, Plan, Through, by_pass, is_passed, lets_by}
use Rattle.span_registry.specs.Question.{single}
use Rattle.span_registry.specs.Subscriber.{SameButExtensions}
use Rattle.span_registry.specs.declared.mask.Mask.{Mask}
use Rattle.span_registry.specs.declared.context.ContextMut.{ContextMut}

-- ---- what a filter lets by

module _ {S : Type 0} (registry : S → RegistryState) where
  -- the spans of the registry that a hook is lent
  abbrev spans_lent : ContextMut S → Spans
  spans_lent c = (registry (subscriber_lent c)).store.spans

  -- whether the id's filter lets the notice by: none does where the id is unattached
  abbrev pub Admits : FilterId → Notice → ContextMut S → Bool → Type 0
  Admits id e c b = (n : Option ℕ)
      → IsNumber id n → option_map_or (λ k. lets_by k e (spans_lent c) (union (filters_lent c) (single k)) (refuses (refused_lent c))) n false ≡ b

  -- as a hook finds that tests the verdict of a span
  by_verdict : (id : FilterId) (c : ContextMut S) (x : Id) (b : Bool) → b ≡ enabled_lent registry c id x
      → (n : Option ℕ) → IsNumber id n → option_map_or (λ k. is_passed (spans_lent c) (union (filters_lent c) (single k)) x) n false ≡ b
  by_verdict id c x b e n h = passed_where_enabled id (registry (subscriber_lent c)).store (lane_lent c).0 (filters_lent c) x n h ∙ sym e

  -- two tests of a number that may be missing
  both_there : (p q : ℕ → Bool) (n : Option ℕ) → option_map_or (λ k. p k && q k) n false ≡ (option_map_or p n false && option_map_or q n false)
  both_there p q None = refl
  both_there p q (Some k) = refl

  -- as a hook finds that tests the pass or the verdicts
  pub by_admitted : (id : FilterId) (e : Notice) (c : ContextMut S) (b : Bool) → b ≡ is_admitted registry id e c → Admits id e c b
  by_admitted id (OnNewSpan attrs x) c b e n h = enabled_at id (refused_lent c) n h ∙ sym e
  by_admitted id (OnEvent event) c b e n h = enabled_at id (refused_lent c) n h ∙ sym e
  by_admitted id (OnFollows x y) c b e n h = both_there _ _ n ∙ (λ i. by_verdict id c x _ refl n h i && by_verdict id c y _ refl n h i) ∙ sym e
  by_admitted id (OnRecord x values) c b e n h = by_verdict id c x b e n h
  by_admitted id (OnEnter x) c b e n h = by_verdict id c x b e n h
  by_admitted id (OnExit x) c b e n h = by_verdict id c x b e n h
  by_admitted id (OnIdChange x y) c b e n h = by_verdict id c x b e n h
  by_admitted id (OnClose x) c b e n h = by_verdict id c x b e n h

  -- ---- what a filter hands on

  -- one that is notified writes extensions at most
  pub handed_on : {with_registry : S → RegistryState → S} {c d : ContextMut S} → WritesExtensions registry with_registry c d → HandsOn registry c d
  handed_on w = record { loan = w.loan; extensions = w.extensions }

  -- what holds of the context that a filter handed on holds of the one before, under the filter too
  carried : {more : FilterSet} {old narrow between : ContextMut S}
      → MasksMore old more narrow → HandsOn registry narrow between → (P : Spans → ℕ → FilterSet → FilterSet → Type 0)
      → P (spans_lent between) (lane_lent between).0 (filters_lent between) (refuses (refused_lent between))
      → P (spans_lent old) (lane_lent old).0 (union (filters_lent old) more) (refuses (refused_lent old))
  carried {more} {old} narrowed handed P h =
      let set = ap (λ (m : FilterId). has_filter m) handed.loan.mask ∙ narrowed.filters in
      subst (λ (c : ContextMut S). P (spans_lent c) (lane_lent c).0 (union (filters_lent old) more) (refuses (refused_lent c))) narrowed.rest
      (transport (λ i. P (handed.extensions.spans i) (handed.loan.lane i).0 (set i) (refuses (handed.loan.refused i))) h)

-- ---- a layer under a filter

module _ {F L S : Type 0}
    (hooked : FilterSteps F) (stepped : LayerSteps L) (has_answers : F → Behaviour → Type 0) (has_form : L → Form → Type 0) (registry : S → RegistryState) where
  -- how it goes on by a plan, from one context to another
  abbrev GoesOn : Notice → FilteredLayer L F → Plan → ContextMut S → F → L → ContextMut S → Type 0
  GoesOn e x p c g y d =
      FilteredSteps hooked stepped x.id x.filter x.layer p e (lane_lent c).0 (filters_lent c) (registry (subscriber_lent c)) g y (registry (subscriber_lent d))

  -- whatever form it has, it goes on by that
  abbrev FilteredNotified : Notice → FilteredLayer L F → ContextMut S → FilteredLayer L F → ContextMut S → Type 0
  FilteredNotified = Notified registry
      (λ (x : FilteredLayer L F). FilteredForm x.id (has_answers x.filter) (has_form x.layer))
      (λ x p e lane under v y w. (y.id ≡ x.id) × FilteredSteps hooked stepped x.id x.filter x.layer p e lane under v y.filter y.layer w)

  -- who is notified through the filter, where it lets the notice by and its set is this one
  abbrev plan_through : Form → Notice → ContextMut S → FilterSet → Plan
  plan_through f e c set = Through (by_pass f e (spans_lent registry c) (union (filters_lent c) set) (refuses (refused_lent c)))

  -- it isn't notified of what its filter doesn't let by
  pub filtered_skips : (e : Notice) (x : FilteredLayer L F) (c : ContextMut S) → Admits registry x.id e c false → FilteredNotified e x c x c
  filtered_skips e x c kept (Filtered (Some n) a f) h = (
    refl,
    subst (λ (b : Bool). GoesOn e x (if b then plan_through f e c (single n) else Nobody) c x.filter x.layer c) (sym (kept (Some n) h.0)) (refl, refl, refl),
  )
  filtered_skips e x c kept (Filtered None a f) h = (refl, (refl, refl, refl))
  filtered_skips e x c kept (Leaf still a) h = absurd h
  filtered_skips e x c kept (Parts k o i) h = absurd h
  filtered_skips e x c kept (Terminal v) h = absurd h

  -- the filter is notified, and then the layer in what the filter left, both under the filter too
  both_notified : (e : Notice) (x : FilteredLayer L F)
      (g : F) (y : L) (old : ContextMut S) {narrow between : ContextMut S} (left new : ContextMut S) (mask : Mask)
      → MasksMore old (has_filter x.id) narrow → FilterNotified (Hooked hooked) registry e x.filter narrow g between → HandsOn registry narrow between
      → Notified registry has_form stepped e x.layer between y left → new ≡ with_mask left mask
      → (f : Form) → has_form x.layer f → GoesOn e x (plan_through f e old (has_filter x.id)) old g y new
  both_notified e x g y old {narrow} {between} left new mask narrowed own handed layer widened f h =
      let v : RegistryState = registry (subscriber_lent between) in
      let inside = carried registry narrowed
      handed (λ spans lane set refused. stepped x.layer (by_pass f e spans set refused) e lane set v y (registry (subscriber_lent left))) (layer f h) in
      let under : FilterSet = union (filters_lent old) (has_filter x.id) in
      record {
        between = v;
        extensions = subst (λ (c : ContextMut S). SameButExtensions (registry (subscriber_lent c)) v) narrowed.rest handed.extensions;
        filter =
            transport (λ i. Hooked hooked x.filter e (lane_lent (narrowed.rest i)).0 (narrowed.filters i) (registry (subscriber_lent (narrowed.rest i))) g v)
            own;
        layer = subst (λ (c : ContextMut S). stepped x.layer (by_pass f e (spans_lent registry old) under (refuses (refused_lent old)))
            e (lane_lent old).0 under v y (registry (subscriber_lent c))) (sym widened) inside;
      }

  -- so it goes on where its filter lets the notice by
  pub filtered_notified : (e : Notice) (x : FilteredLayer L F)
      (g : F) (y : L) (old : ContextMut S) {narrow between : ContextMut S} (left new : ContextMut S) (mask : Mask)
      → Admits registry x.id e old true
      → MasksMore old (has_filter x.id) narrow → FilterNotified (Hooked hooked) registry e x.filter narrow g between → HandsOn registry narrow between
      → Notified registry has_form stepped e x.layer between y left → new ≡ with_mask left mask
      → FilteredNotified e x old (record x { filter = g; layer = y }) new
  filtered_notified e x g y old left new mask passed narrowed own handed layer widened (Filtered (Some n) a f) h =
      let both = both_notified e x g y old left new mask narrowed own handed layer widened f h.2 in
      (refl, transport (λ i. GoesOn e x (if sym (passed (Some n) h.0) i then plan_through f e old (h.0.1 i) else Nobody) old g y new) both)
  filtered_notified e x g y old left new mask passed narrowed own handed layer widened (Filtered None a f) h = absurd (false≢true (passed None h.0))
  filtered_notified e x g y old left new mask passed narrowed own handed layer widened (Leaf still a) h = absurd h
  filtered_notified e x g y old left new mask passed narrowed own handed layer widened (Parts k o i) h = absurd h
  filtered_notified e x g y old left new mask passed narrowed own handed layer widened (Terminal v) h = absurd h
