-- What lines show of spans: by the scope that a context gives and by what a view shows, and extensions aside.
use Rattle.std.proofs.Common.{◌≡◌, ◌∙◌, ℕ, List, [], ◌∷◌, ◌++◌, map, Option, Some, None, refl, sym, ap}
use Rattle.std.proofs.lemmas.List.{map-append, reverse-append, reverse-reverse}
use Rattle.std.specs.FinMap.{empty, get}
use Rattle.std.specs.Option.{option_map, option_map_or}
use Rattle.std.specs.Prelude.{flat_map, reverse}
use Rattle.span_core.specs.Event.{event_parent}
use Rattle.span_core.specs.Filters.{FilterSet}
use Rattle.span_core.specs.declared.event.Event.{Event}
use Rattle.span_extensions.specs.declared.extensions.ExtensionMap.{ExtensionMap}
use Rattle.span_fmt.specs.Known.{SpanTexts}
use Rattle.span_fmt.specs.Tree.{given, spans_round}
use Rattle.span_format.specs.Part.{from_root, outwards, part_text, reference_part, seen_part}
use Rattle.span_format.specs.declared.part.Part.{Part}
use Rattle.span_registry.specs.Context.{GivesScope, LooksAtLent, filters_in, filters_lent, lane_lent, subscriber_lent, view_lent}
use Rattle.span_registry.specs.Law.{ShowsPlainly}
use Rattle.span_registry.specs.References.{Reference, reference_to}
use Rattle.span_registry.specs.View.{event_shown, plain_view, see, view_of}
use Rattle.span_registry.specs.declared.context.Context.{Context}
use Rattle.span_registry.specs.declared.context.ContextMut.{ContextMut}
use Rattle.span_registry.specs.declared.scope.Scope.{Scope}
use Rattle.span_store.specs.Store.{RegistryState, Span, Store}
use Rattle.span_fmt.proofs.CallerLemmas.{references_round, round_plainly}
use Rattle.span_registry.proofs.Ancestry.{seen_at}

-- ---- a part of a span is of what the store has

abbrev stored_part : Part → SpanTexts → ℕ → Option Span → List ℕ
stored_part of kept x o = option_map_or (λ s. part_text of s.metadata (kept x)) o []

shown_part : (of : Part) (kept : SpanTexts) (x : ℕ) (mask : FilterSet) (e : Option ExtensionMap) (o : Option Span)
    → option_map_or (λ s. part_text of s.metadata (kept x)) (option_map (λ r. see mask r e) o) [] ≡ stored_part of kept x o
shown_part of kept x mask e None = refl
shown_part of kept x mask e (Some r) = refl

part_seen : (of : Part) (s : Store) (lane : ℕ) (mask : FilterSet) (kept : SpanTexts) (x : ℕ)
    → seen_part of (view_of s lane mask) kept x ≡ stored_part of kept x (get s.spans x)
part_seen of s lane mask kept x =
    ap (λ o. option_map_or (λ r. part_text of r.metadata (kept x)) o []) (seen_at s mask x) ∙ shown_part of kept x mask (get s.extensions x) (get s.spans x)

-- ---- references stand for their spans

flat_map-map : {A B : Type 0} (f : A → B) (g : B → List ℕ) (xs : List A) → flat_map g (map f xs) ≡ flat_map (λ x. g (f x)) xs
flat_map-map f g [] = refl
flat_map-map f g (x ∷ xs) = ap (λ (t : List ℕ). g (f x) ++ t) (flat_map-map f g xs)

reversed_map : {A B : Type 0} (f : A → B) (xs : List A) → reverse (map f xs) ≡ map f (reverse xs)
reversed_map f [] = refl
reversed_map f (x ∷ xs) =
    reverse-append (f x ∷ []) (map f xs)
    ∙ ap (λ t. t ++ (f x ∷ [])) (reversed_map f xs) ∙ sym (map-append f (reverse xs) (x ∷ [])) ∙ ap (map f) (sym (reverse-append (x ∷ []) xs))

module _ {S : Type 0} (registry : S → RegistryState) (c : ContextMut S) (look : Context S) (e : Event) (found : Option (Scope S)) (of : Part) (kept : SpanTexts)
    (l : LooksAtLent c look) (h : GivesScope registry look (event_shown (event_parent e)) found) where
  abbrev refers : ℕ → Reference S
  refers = reference_to registry (subscriber_lent c) (filters_in look)

  each_seen : (spans : List ℕ) → flat_map (reference_part of kept) (map refers spans) ≡ flat_map (seen_part of (view_lent registry c) kept) spans
  each_seen spans =
      flat_map-map refers (reference_part of kept) spans
      ∙ (λ i. flat_map (λ x. sym (part_seen of (registry (subscriber_lent c)).store (lane_lent c).0 (filters_lent c) kept x) i) spans)

  -- the spans of the scope found are those that the view shows, from the root on
  pub parts_from_root : flat_map (reference_part of kept) (reverse (given registry found)) ≡ from_root of e (view_lent registry c) kept
  parts_from_root =
      ap (flat_map (reference_part of kept)) (references_round registry c look e found l h) ∙ each_seen (reverse (spans_round e (view_lent registry c)))

  -- and innermost first
  pub parts_outwards : flat_map (reference_part of kept) (given registry found) ≡ outwards of e (view_lent registry c) kept
  parts_outwards =
      let spans = spans_round e (view_lent registry c) in
      ap (flat_map (reference_part of kept))
      (sym (reverse-reverse (given registry found)) ∙ ap (λ (rs : List (Reference S)). reverse rs) (references_round registry c look e found l h)
      ∙ reversed_map refers (reverse spans) ∙ ap (map refers) (reverse-reverse spans))
      ∙ each_seen spans

-- ---- extensions make no difference

module _ (s : Store) (lane : ℕ) (mask : FilterSet) (law : ShowsPlainly s lane mask) (of : Part) (e : Event) (kept : SpanTexts) where
  part_plainly : (x : ℕ) → seen_part of (view_of s lane mask) kept x ≡ seen_part of (plain_view s lane mask) kept x
  part_plainly x = part_seen of s lane mask kept x ∙ sym (part_seen of (record s { extensions = empty }) lane mask kept x)

  pub from_root_plainly : from_root of e (view_of s lane mask) kept ≡ from_root of e (plain_view s lane mask) kept
  from_root_plainly = λ i. flat_map (λ x. part_plainly x i) (reverse (round_plainly s lane mask law e i))

  pub outwards_plainly : outwards of e (view_of s lane mask) kept ≡ outwards of e (plain_view s lane mask) kept
  outwards_plainly = λ i. flat_map (λ x. part_plainly x i) (round_plainly s lane mask law e i)
