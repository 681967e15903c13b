-- What a filter's id says of sets of filters, of maps and of verdicts, as its number does.
use Rattle.std.proofs.Common.{◌≡◌, ℕ, ◌<◌, Bool, true, false, cond, not, ◌&&◌, ◌||◌, List, [], ◌∷◌, Option, Some, None, refl, sym, ap, ◌∙◌, ◌⊎◌, inl, inr}
use Rattle.std.proofs.lemmas.Bool.{and_from, and_left, and_right, cases_Bool, eq-eqb, eqb-true}
use Rattle.std.specs.Cmp.{nat_cmp_total}
use Rattle.std.specs.FinMap.{entries, find, get, get-entries, get-from_entries}
use Rattle.std.specs.Option.{option_map_or}
use Rattle.std.specs.Ordering.{eq_by_cmp, nat_cmp}
use Rattle.span_core.proofs.FilterLemmas.{meets-union}
use Rattle.span_core.proofs.SomeBelow.{some_below-found, some_below-none}
use Rattle.span_core.specs.Filters.{FilterSet, has_filter, is_enabled, meets, refuses, union}
use Rattle.span_core.specs.Span.{number_of}
use Rattle.span_core.specs.declared.filter.FilterId.{FilterId}
use Rattle.span_core.specs.declared.filter.FilterMap.{FilterMap}
use Rattle.span_core.specs.declared.number_set.TheConstants.{LIMIT}
use Rattle.span_core.specs.declared.span.Id.{Id}
use Rattle.span_stacks.specs.laws.Filtered.{numbered_alone}
use Rattle.span_stacks.specs.Filtered.{FilteredForm, IsNumber}
use Rattle.span_store.specs.Store.{Span, SpanExtensions, Store}
use Rattle.span_registry.proofs.Ancestry.{see_each}
use Rattle.span_registry.specs.Behaviour.{Behaviour}
use Rattle.span_registry.specs.Form.{Filtered, Form}
use Rattle.span_targets.specs.declared.setting.Setting.{Setting}
use Rattle.std.specs.Prelude.{if◌then◌else◌}
use Rattle.span_registry.specs.Reload.{takes_setting}
use Rattle.span_registry.specs.Context.{is_enabled_in}
use Rattle.span_registry.specs.Plan.{is_passed}
use Rattle.span_registry.specs.Question.{single}
use Rattle.span_registry.specs.View.{SeenSpan, is_shown, see, seen_spans, view_of}

-- ---- in a map

-- a set without this filter has nothing in common with the filter
alone : (n k : ℕ) (set : FilterSet) → set n ≡ false → (single n k ≡ true) ⊎ (single n k ≡ false) → (single n k && set k) ≡ false
alone n k set e (inl s) = and_right _ _ (ap set (eqb-true k n s) ∙ e)
alone n k set e (inr s) = and_left _ _ s

-- the same by whether the set has it
single_by : (n : ℕ) (set : FilterSet) → n < LIMIT → (set n ≡ true) ⊎ (set n ≡ false) → meets (single n) set ≡ set n
single_by n set h (inl e) = some_below-found LIMIT (λ k. single n k && set k) n h (and_from _ _ (eq-eqb n n refl) e) ∙ sym e
single_by n set h (inr e) = some_below-none LIMIT (λ k. single n k && set k) (λ k l. alone n k set e (cases_Bool (single n k))) ∙ sym e

-- a filter alone meets a set exactly where it is in the set
meets_single : (n : ℕ) (set : FilterSet) → n < LIMIT → meets (single n) set ≡ set n
meets_single n set h = single_by n set h (cases_Bool (set n))

-- an id is enabled in a map exactly where it has a number that doesn't refuse there
pub enabled_at : (id : FilterId) (map : FilterMap) (n : Option ℕ) → IsNumber id n → option_map_or (λ k. not (refuses map k)) n false ≡ is_enabled map id
enabled_at id map None h = sym (and_left _ _ h)
enabled_at id map (Some n) h = ap not (sym (meets_single n (refuses map) h.2)) ∙ sym (λ i. h.0 i && not (meets (h.1 i) (refuses map)))

-- a test that is turned twice
pub twice : (a : Bool) → a ≡ not (not a)
twice true = refl
twice false = refl

-- a number refuses in a map exactly where its id isn't enabled there
pub refuses_at : (id : FilterId) (n : ℕ) (b : Bool) {map same : FilterMap} → IsNumber id (Some n) → map ≡ same → b ≡ is_enabled map id → refuses same n ≡ not b
refuses_at id n b {map} {same} h e t = twice (refuses same n) ∙ ap not (enabled_at id same (Some n) h ∙ sym (t ∙ ap (λ (m : FilterMap). is_enabled m id) e))

-- ---- in the verdict of a span

-- whether the span is there and isn't hidden
abbrev is_plain : Option SeenSpan → Bool
is_plain o = option_map_or (λ r. not r.hidden) o false

-- whether the span is there and no filter of the set is in its verdict
abbrev is_clear : FilterSet → Option Span → Bool
is_clear set o = option_map_or (λ r. not (meets set (refuses r.verdict))) o false

-- whether the span is there and the id is enabled in its verdict
abbrev is_open_to : FilterId → Option Span → Bool
is_open_to id o = option_map_or (λ r. is_enabled r.verdict id) o false

-- of the spans as they are seen, those are plain that are clear of the set
plain_where_clear : (set : FilterSet) (xs : SpanExtensions) (es : List (ℕ × Span)) (x : ℕ)
    → is_plain (find nat_cmp x (see_each set xs es)) ≡ is_clear set (find nat_cmp x es)
plain_where_clear set xs [] x = refl
plain_where_clear set xs (e ∷ es) x =
    elim (eq_by_cmp nat_cmp x e.0) as (λ b.
    is_plain (cond b (Some (see set e.1 (get xs e.0))) (find nat_cmp x (see_each set xs es))) ≡ is_clear set (cond b (Some e.1) (find nat_cmp x es))) [
      | true ↦ refl
      | false ↦ plain_where_clear set xs es x
    ]

-- a span is shown under a set of filters exactly where it passes them
shown_where_passed : (s : Store) (set : FilterSet) (x : Id) → is_shown (seen_spans s set) (number_of x) ≡ is_passed s.spans set x
shown_where_passed s set x =
    ap is_plain (get-from_entries nat_cmp_total (see_each set s.extensions (entries s.spans)) (number_of x))
    ∙ plain_where_clear set s.extensions (entries s.spans) (number_of x) ∙ ap (is_clear set) (sym (get-entries s.spans (number_of x)))

-- neither is so
not_either : (a b : Bool) → not (a || b) ≡ (not a && not b)
not_either true b = refl
not_either false b = refl

-- a verdict is clear of a set and of the filter exactly where it is clear of the set and open to the id
clear_of_both : (id : FilterId) (set : FilterSet) (n : Option ℕ) (o : Option Span)
    → IsNumber id n → option_map_or (λ k. is_clear (union set (single k)) o) n false ≡ (is_clear set o && is_open_to id o)
clear_of_both id set None None h = refl
clear_of_both id set (Some n) None h = refl
clear_of_both id set None (Some r) h = sym (and_right _ _ (and_left _ _ h))
clear_of_both id set (Some n) (Some r) h =
    ap not (meets-union set (single n) (refuses r.verdict)) ∙ not_either (meets set (refuses r.verdict)) (meets (single n) (refuses r.verdict))
    ∙ sym (λ i. not (meets set (refuses r.verdict)) && (h.0 i && not (meets (h.1 i) (refuses r.verdict))))

-- a span passes a set and the filter exactly where the id is enabled for it in the view under that set
pub passed_where_enabled : (id : FilterId) (s : Store) (lane : ℕ) (set : FilterSet) (x : Id) (n : Option ℕ) → IsNumber id n
    → option_map_or (λ k. is_passed s.spans (union set (single k)) x) n false ≡ is_enabled_in s (view_of s lane set) id (number_of x)
passed_where_enabled id s lane set x n h =
    clear_of_both id set n (get s.spans (number_of x)) h
    ∙ ap (λ (b : Bool). b && is_open_to id (get s.spans (number_of x))) (sym (shown_where_passed s set x))

-- ---- which filter takes a level

module _ (id : FilterId) (answers : Behaviour → Type 0) (layer : Form → Type 0) (n : ℕ) (l : Setting) (said : Bool) where
  -- the filter itself, where it has the number
  pub takes_itself : has_filter id n ≡ true
      → ((a : Behaviour) → answers a → said ≡ a.takes l) → (f : Form) → FilteredForm id answers layer f → said ≡ takes_setting f n l
  takes_itself own says (Filtered m a f) h =
      says a h.1 ∙ ap (λ (t : Bool). if t then a.takes l else takes_setting f n l) (sym own ∙ ap (λ (k : FilterSet). k n) (numbered_alone id m h.0))
  takes_itself own says f h = absurd h

  -- else what stands under it
  pub takes_under : has_filter id n ≡ false
      → ((f : Form) → layer f → said ≡ takes_setting f n l) → (f : Form) → FilteredForm id answers layer f → said ≡ takes_setting f n l
  takes_under none says (Filtered m a f) h =
      says f h.2 ∙ ap (λ (t : Bool). if t then a.takes l else takes_setting f n l) (sym none ∙ ap (λ (k : FilterSet). k n) (numbered_alone id m h.0))
  takes_under none says f h = absurd h
