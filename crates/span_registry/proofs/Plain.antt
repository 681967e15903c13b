-- Views, extensions aside: what they show, and where two are the same.
use Rattle.std.proofs.Common.{◌≡◌, ℕ, zero, suc, Bool, false, not, if◌then◌else◌, is_some, IsTrue, T, true, ◌&&◌, List, [], ◌∷◌, length, Option, None, Some}
use Rattle.std.proofs.Common.{refl}
use Rattle.std.proofs.Common.{sym, ap, cond, map, subst, ◌∙◌}
use Rattle.std.specs.Cmp.{nat_cmp_total}
use Rattle.std.specs.FinMap.Entries.{below_all}
use Rattle.std.specs.FinMap.{empty, entries, entries_sorted, entries-from_sorted, from_entries, from_sorted, get, get-from_entries, get-from_sorted, is_sorted}
use Rattle.std.specs.FinMap.{get-entries, len, len-entries, nat_cmp-IsAntisymmetric, same_map}
use Rattle.std.specs.FinMap as finmap
use Rattle.std.specs.List.{filter, find}
use Rattle.std.specs.Option.{option_and_then, option_map, option_map_or}
use Rattle.std.specs.Ordering.{eq_by_cmp, is_lt, nat_cmp}
use Rattle.span_core.specs.Filters.{FilterSet, meets, refuses}
use Rattle.span_core.specs.Span.{number_of}
use Rattle.span_core.specs.declared.metadata.Metadata.{Metadata}
use Rattle.span_core.specs.declared.span.Id.{Id}
use Rattle.span_core.specs.declared.span.Parent.TheVariants.{Contextual, Explicit, Root}
use Rattle.span_core.specs.declared.span.Parent.{Parent}
use Rattle.span_extensions.specs.declared.extensions.ExtensionMap.{ExtensionMap}
use Rattle.span_store.specs.LaneStack.{newest, without_duplicates}
use Rattle.span_store.specs.Store.{RegistryState, Span, SpanExtensions, Store, stack_on}
use Rattle.span_registry.specs.Agree.{AgreeAt}
use Rattle.span_registry.specs.Behaviour.{AreAlike, Notice, unextended}
use Rattle.span_registry.specs.Law.{ShowsPlainly}
use Rattle.span_registry.specs.Position.{told_in}
use Rattle.span_registry.specs.Plan.{is_passed}
use Rattle.span_registry.specs.Subscriber.{SameButExtensions}
use Rattle.span_registry.specs.View.{SeenSpan, SeenSpans, View, ancestry, current_among, current_shown, event_shown, is_shown, metadata_shown, parent_seen}
use Rattle.span_registry.specs.View.{parent_shown, plain_view, scope, see, seen_spans, shown, view_of}
use Rattle.span_registry.proofs.Agreeing.{PlacesAgree, places_of, same_hidden}
use Rattle.span_registry.proofs.Ancestry.{see_each, seen_at}

-- ---- how many spans are seen

below_each : (mask : FilterSet) (xs : SpanExtensions) (x : ℕ) (es : List (ℕ × Span)) → below_all nat_cmp x (see_each mask xs es) ≡ below_all nat_cmp x es
below_each mask xs x [] = refl
below_each mask xs x (e ∷ es) = ap (λ (b : Bool). is_lt (nat_cmp x e.0) && b) (below_each mask xs x es)

sorted_each : (mask : FilterSet) (xs : SpanExtensions) (es : List (ℕ × Span)) → is_sorted nat_cmp (see_each mask xs es) ≡ is_sorted nat_cmp es
sorted_each mask xs [] = refl
sorted_each mask xs (e ∷ es) = λ i. below_each mask xs e.0 es i && sorted_each mask xs es i

as_many_each : (mask : FilterSet) (xs : SpanExtensions) (es : List (ℕ × Span)) → length (see_each mask xs es) ≡ length es
as_many_each mask xs [] = refl
as_many_each mask xs (e ∷ es) = ap suc (as_many_each mask xs es)

len_sorted : (es : List (ℕ × SeenSpan)) → T (is_sorted nat_cmp es) → len (from_entries {R = nat_cmp} es) ≡ length es
len_sorted es t =
    let same : from_entries {R = nat_cmp} es ≡ from_sorted {R = nat_cmp} es = same_map nat_cmp_total
    nat_cmp-IsAntisymmetric (from_entries es) (from_sorted es) (λ q. get-from_entries nat_cmp_total es q ∙ sym (get-from_sorted nat_cmp es q t)) in
    ap len same ∙ len-entries (from_sorted es) ∙ ap length (entries-from_sorted nat_cmp es t)

-- as many spans are seen as there are
len_seen : (s : Store) (mask : FilterSet) → len (seen_spans s mask) ≡ length (entries s.spans)
len_seen s mask =
    len_sorted (see_each mask s.extensions (entries s.spans)) (subst T (sym (sorted_each mask s.extensions (entries s.spans))) (entries_sorted s.spans))
    ∙ as_many_each mask s.extensions (entries s.spans)

-- ---- what is shown

unextended_seen : (mask : FilterSet) (o : Option Span) (e f : Option ExtensionMap)
    → option_map unextended (option_map (λ r. see mask r e) o) ≡ option_map unextended (option_map (λ r. see mask r f) o)
unextended_seen mask None e f = refl
unextended_seen mask (Some r) e f = refl

-- the same is seen of a span, extensions aside
seen_plainly : (s : Store) (mask : FilterSet) (x : ℕ)
    → option_map unextended (get (seen_spans s mask) x) ≡ option_map unextended (get (seen_spans (record s { extensions = empty }) mask) x)
seen_plainly s mask x =
    let bare : Store = record s { extensions = empty } in
    ap (option_map unextended) (seen_at s mask x)
    ∙ unextended_seen mask (get s.spans x) (get s.extensions x) (get bare.extensions x) ∙ ap (option_map unextended) (sym (seen_at bare mask x))

module _ (m n : SeenSpans) (same : (x : ℕ) → option_map unextended (get m x) ≡ option_map unextended (get n x)) (as_many : len m ≡ len n) where
  shown_unextended : (o p : Option SeenSpan)
      → option_map unextended o ≡ option_map unextended p → option_map_or (λ r. not r.hidden) o false ≡ option_map_or (λ r. not r.hidden) p false
  shown_unextended None None h = refl
  shown_unextended None (Some q) h = let no : ⊥ = cc in absurd no
  shown_unextended (Some r) None h = let no : ⊥ = cc in absurd no
  shown_unextended (Some r) (Some q) h = ap (λ (o : Option SeenSpan). option_map_or (λ r. not r.hidden) o false) h

  parent_unextended : (o p : Option SeenSpan)
      → option_map unextended o ≡ option_map unextended p → option_and_then (λ r. r.parent) o ≡ option_and_then (λ r. r.parent) p
  parent_unextended None None h = refl
  parent_unextended None (Some q) h = let no : ⊥ = cc in absurd no
  parent_unextended (Some r) None h = let no : ⊥ = cc in absurd no
  parent_unextended (Some r) (Some q) h = ap (λ (o : Option SeenSpan). option_and_then (λ (w : SeenSpan). w.parent) o) h

  metadata_unextended : (o p : Option SeenSpan)
      → option_map unextended o ≡ option_map unextended p → option_map (λ r. r.metadata) o ≡ option_map (λ r. r.metadata) p
  metadata_unextended None None h = refl
  metadata_unextended None (Some q) h = let no : ⊥ = cc in absurd no
  metadata_unextended (Some r) None h = let no : ⊥ = cc in absurd no
  metadata_unextended (Some r) (Some q) h = ap (λ (o : Option SeenSpan). option_map (λ (w : SeenSpan). w.metadata) o) h

  is_shown_alike : is_shown m ≡ is_shown n
  is_shown_alike = λ i x. shown_unextended (get m x) (get n x) (same x) i

  parents_alike : parent_seen m ≡ parent_seen n
  parents_alike = λ i x. parent_unextended (get m x) (get n x) (same x) i

  ancestry_alike : (k : ℕ) (o : Option ℕ) → ancestry k m o ≡ ancestry k n o
  ancestry_alike zero o = refl
  ancestry_alike (suc k) None = refl
  ancestry_alike (suc k) (Some x) = ap (λ (xs : List ℕ). x ∷ xs) (ap (ancestry k m) (λ i. parents_alike i x) ∙ ancestry_alike k (parent_seen n x))

  scope_alike : (o : Option ℕ) → scope m o ≡ scope n o
  scope_alike o = ap (λ (f : ℕ → Bool). filter f (ancestry (len m) m o)) is_shown_alike
      ∙ ap (filter (is_shown n)) (ancestry_alike (len m) o ∙ ap (λ (k : ℕ). ancestry k n o) as_many)

  here_unextended : (o p : Option SeenSpan) → option_map unextended o ≡ option_map unextended p → is_some o ≡ is_some p
  here_unextended None None h = refl
  here_unextended None (Some q) h = let no : ⊥ = cc in absurd no
  here_unextended (Some r) None h = let no : ⊥ = cc in absurd no
  here_unextended (Some r) (Some q) h = refl

  current_alike : (xs : List ℕ) → current_among m xs ≡ current_among n xs
  current_alike [] = refl
  current_alike (x ∷ xs) = λ i. if here_unextended (get m x) (get n x) (same x) i then find (is_shown_alike i) (x ∷ xs) else None

  metadata_alike : (x : ℕ) → option_map (λ r. r.metadata) (get m x) ≡ option_map (λ r. r.metadata) (get n x)
  metadata_alike x = metadata_unextended (get m x) (get n x) (same x)

-- ---- views that differ in extensions alone

-- spans as they are seen, their extensions left out
abbrev bare_each : List (ℕ × SeenSpan) → List (ℕ × SeenSpan)
bare_each es = map (λ e. (e.0, unextended e.1)) es

below_bare : (x : ℕ) (es : List (ℕ × SeenSpan)) → below_all nat_cmp x (bare_each es) ≡ below_all nat_cmp x es
below_bare x [] = refl
below_bare x (e ∷ es) = ap (λ (b : Bool). is_lt (nat_cmp x e.0) && b) (below_bare x es)

sorted_bare : (es : List (ℕ × SeenSpan)) → is_sorted nat_cmp (bare_each es) ≡ is_sorted nat_cmp es
sorted_bare [] = refl
sorted_bare (e ∷ es) = λ i. below_bare e.0 es i && sorted_bare es i

as_many_bare : (es : List (ℕ × SeenSpan)) → length (bare_each es) ≡ length es
as_many_bare [] = refl
as_many_bare (e ∷ es) = ap suc (as_many_bare es)

either_bare : (b : Bool) (r : SeenSpan) (o p : Option SeenSpan) → o ≡ option_map unextended p
    → cond b (Some (unextended r)) o ≡ option_map unextended (cond b (Some r) p)
either_bare true r o p h = refl
either_bare false r o p h = h

found_bare : (x : ℕ) (es : List (ℕ × SeenSpan)) → finmap.find nat_cmp x (bare_each es) ≡ option_map unextended (finmap.find nat_cmp x es)
found_bare x [] = refl
found_bare x (e ∷ es) = either_bare (eq_by_cmp nat_cmp x e.0) e.1 _ _ (found_bare x es)

-- all spans that are seen, their extensions left out
abbrev bare : SeenSpans → SeenSpans
bare m = from_entries (bare_each (entries m))

get_bare : (m : SeenSpans) (x : ℕ) → get (bare m) x ≡ option_map unextended (get m x)
get_bare m x =
    get-from_entries nat_cmp_total (bare_each (entries m)) x ∙ found_bare x (entries m) ∙ ap (option_map unextended) (sym (get-entries m x))

len_bare : (m : SeenSpans) → len (bare m) ≡ len m
len_bare m =
    len_sorted (bare_each (entries m)) (subst T (sym (sorted_bare (entries m))) (entries_sorted m)) ∙ as_many_bare (entries m) ∙ sym (len-entries m)

-- in views that differ in extensions alone a lane is in the same span, with the same spans round it
pub scopes_alike : (v w : View) → AreAlike v w → scope v.spans (current_shown v) ≡ scope w.spans (current_shown w)
scopes_alike v w h =
    let same : bare v.spans ≡ bare w.spans =
    same_map nat_cmp_total nat_cmp-IsAntisymmetric _ _ (λ x. get_bare v.spans x ∙ h.spans x ∙ sym (get_bare w.spans x)) in
    let as_many : len v.spans ≡ len w.spans = sym (len_bare v.spans) ∙ ap len same ∙ len_bare w.spans in
    scope_alike v.spans w.spans h.spans as_many (current_shown v)
    ∙ ap (scope w.spans)
    (current_alike v.spans w.spans h.spans as_many (without_duplicates v.stack) ∙ ap (λ xs. current_among w.spans (without_duplicates xs)) h.stack)

module _ (s : Store) (lane : ℕ) (mask : FilterSet) where
  as_many_plainly : len (seen_spans s mask) ≡ len (seen_spans (record s { extensions = empty }) mask)
  as_many_plainly = len_seen s mask ∙ sym (len_seen (record s { extensions = empty }) mask)

  is_shown_plainly : is_shown (seen_spans s mask) ≡ is_shown (seen_spans (record s { extensions = empty }) mask)
  is_shown_plainly = is_shown_alike _ _ (seen_plainly s mask) as_many_plainly

  current_plainly : current_shown (view_of s lane mask) ≡ current_shown (plain_view s lane mask)
  current_plainly = current_alike _ _ (seen_plainly s mask) as_many_plainly (without_duplicates (stack_on s.stacks lane))

  shown_plainly : (x : ℕ) → shown x (view_of s lane mask) ≡ shown x (plain_view s lane mask)
  shown_plainly x = λ i. if is_shown_plainly i x then Some x else None

  scope_plainly : (o : Option ℕ) → scope (seen_spans s mask) o ≡ scope (seen_spans (record s { extensions = empty }) mask) o
  scope_plainly o = scope_alike _ _ (seen_plainly s mask) as_many_plainly o

  parent_plainly : (x : ℕ) → parent_shown (seen_spans s mask) x ≡ parent_shown (seen_spans (record s { extensions = empty }) mask) x
  parent_plainly x = ap newest (scope_plainly (parent_seen (seen_spans s mask) x)
      ∙ ap (scope (seen_spans (record s { extensions = empty }) mask)) (λ i. parents_alike _ _ (seen_plainly s mask) as_many_plainly i x))

  metadata_plainly : (x : ℕ) → metadata_shown x (view_of s lane mask) ≡ metadata_shown x (plain_view s lane mask)
  metadata_plainly x =
      ap (option_and_then (λ y. option_map (λ r. r.metadata) (get (seen_spans s mask) y))) (shown_plainly x)
      ∙ ap (λ (f : ℕ → Option Metadata). option_and_then f (shown x (plain_view s lane mask)))
      (λ i y. metadata_alike _ _ (seen_plainly s mask) as_many_plainly y i)

  event_plainly : (p : Parent) → event_shown p (view_of s lane mask) ≡ event_shown p (plain_view s lane mask)
  event_plainly Root = refl
  event_plainly Contextual = current_plainly
  event_plainly (Explicit id) = shown_plainly (number_of id)

  -- extensions aside the same is shown
  pub shows_plainly : ShowsPlainly s lane mask
  shows_plainly = record {
    shown = shown_plainly;
    metadata = metadata_plainly;
    current = current_plainly;
    event = event_plainly;
    parent = parent_plainly;
    scope = scope_plainly;
  }

shown_by : (o : Option Span) (mask : FilterSet) (e : Option ExtensionMap)
    → option_map_or (λ r. not r.hidden) (option_map (λ r. see mask r e) o) false ≡ option_map_or (λ r. not (meets mask (refuses r.verdict))) o false
shown_by None mask e = refl
shown_by (Some r) mask e = refl

-- a view shows the spans that its mask passes
pub shown_as_passed : (s : Store) (lane : ℕ) (mask : FilterSet) (id : Id) → is_shown (plain_view s lane mask).spans (number_of id) ≡ is_passed s.spans mask id
shown_as_passed s lane mask id =
    let bare : Store = record s { extensions = empty } in
    ap (λ (o : Option SeenSpan). option_map_or (λ r. not r.hidden) o false) (seen_at bare mask (number_of id))
    ∙ shown_by (get s.spans (number_of id)) mask (get bare.extensions (number_of id))

-- ---- where two views are the same, extensions aside

same_seen : (numbers mask : FilterSet) (a b : Option Span) (e : Option ExtensionMap)
    → PlacesAgree numbers a b → ((n : ℕ) → IsTrue (mask n) → IsTrue (numbers n)) → option_map (λ r. see mask r e) a ≡ option_map (λ r. see mask r e) b
same_seen numbers mask None None e h i = refl
same_seen numbers mask None (Some q) e h i = absurd h
same_seen numbers mask (Some r) None e h i = absurd h
same_seen numbers mask (Some r) (Some q) e h i =
    let hidden : meets mask (refuses r.verdict) ≡ meets mask (refuses q.verdict) = same_hidden numbers mask r.verdict q.verdict h.verdict i in
    λ j. Some (record { metadata = h.metadata j; parent = h.parent j; hidden = hidden j; extensions = (if hidden j then None else e) })

-- where stores agree as far as these filters go, their views under a mask among these are, extensions aside
pub plain_views_agree : (numbers mask : FilterSet) (s t : Store) (lane : ℕ)
    → AgreeAt numbers s t → ((n : ℕ) → IsTrue (mask n) → IsTrue (numbers n)) → plain_view s lane mask ≡ plain_view t lane mask
plain_views_agree numbers mask s t lane h i =
    let bare : Store = record s { extensions = empty } in
    let other : Store = record t { extensions = empty } in
    let spans : seen_spans bare mask ≡ seen_spans other mask = same_map nat_cmp_total nat_cmp-IsAntisymmetric _ _ (λ x. seen_at bare mask x
    ∙ same_seen numbers mask (get s.spans x) (get t.spans x) (get bare.extensions x) (places_of numbers s t h x) i ∙ sym (seen_at other mask x)) in
    λ j. record { lane = lane; stack = stack_on (h.stacks j) lane; spans = spans j }

-- hooks that write extensions change none
pub plain_aside : (v w : RegistryState) (lane : ℕ) (mask : FilterSet) → SameButExtensions v w → plain_view w.store lane mask ≡ plain_view v.store lane mask
plain_aside v w lane mask h = λ j. plain_view (record v.store { spans = h.spans j; stacks = h.stacks j }) lane mask

pub told_aside : (e : Notice) (v w : RegistryState) (lane : ℕ) (mask : FilterSet)
    → SameButExtensions v w → told_in e w.store lane mask ≡ told_in e v.store lane mask
told_aside e v w lane mask h = ap (λ (view : View). record { lane = lane; notice = e; view = view }) (plain_aside v w lane mask h)
