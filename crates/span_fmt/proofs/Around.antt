-- The line of an event: by the scope that a context gives and by what a view shows, and extensions aside.
use Rattle.std.proofs.Common.{◌≡◌, ◌∙◌, ℕ, List, [], ◌∷◌, ◌++◌, map, Option, Some, None, refl, sym, ap}
use Rattle.std.proofs.lemmas.List.{map-append, reverse-append}
use Rattle.std.specs.Borrow.{Bor}
use Rattle.std.specs.FinMap.{empty, get}
use Rattle.std.specs.Option.{option_map, option_map_or}
use Rattle.std.specs.Prelude.{flat_map, reverse}
use Rattle.span_core.specs.Event.{event_metadata, event_parent, event_values}
use Rattle.span_core.specs.Filters.{FilterSet}
use Rattle.span_core.specs.Metadata.{level_of, name_of}
use Rattle.span_core.specs.declared.event.Event.{Event}
use Rattle.span_core.specs.declared.field.FieldValue.{FieldValue}
use Rattle.span_core.specs.declared.level.Level.{Level}
use Rattle.span_core.specs.declared.metadata.Metadata.{Metadata}
use Rattle.span_extensions.specs.declared.extensions.ExtensionMap.{ExtensionMap}
use Rattle.span_store.specs.Store.{RegistryState, Span, Store}
use Rattle.span_registry.proofs.Ancestry.{seen_at}
use Rattle.span_registry.specs.Context.{GivesScope, LooksAtLent, filters_in, filters_lent, lane_lent, subscriber_lent, view_lent}
use Rattle.span_registry.specs.Law.{ShowsPlainly}
use Rattle.span_registry.specs.References.{Reference, reference_to}
use Rattle.span_registry.specs.View.{View, event_shown, plain_view, scope, see, view_of}
use Rattle.span_registry.specs.declared.context.Context.{Context}
use Rattle.span_registry.specs.declared.context.ContextMut.{ContextMut}
use Rattle.span_registry.specs.declared.scope.Scope.{Scope}
use Rattle.span_fmt.proofs.Scopes.{lent}
use Rattle.span_fmt.specs.Known.{SpanTexts}
use Rattle.span_fmt.specs.Lane.{Naming}
use Rattle.span_fmt.specs.Lines.{around_text, begun_text, event_line, label_text, reference_label, seen_label, spaced}
use Rattle.span_fmt.specs.Text.{rest_text}
use Rattle.span_fmt.specs.Tree.{given, spans_round}

-- ---- a span's name is what the store has

abbrev stored_name : Option Span → List ℕ
stored_name o = option_map_or (λ s. name_of s.metadata) o []

abbrev stored_label : Store → SpanTexts → ℕ → List ℕ
stored_label s known x = label_text (stored_name (get s.spans x)) (known x)

seen_name : (mask : FilterSet) (e : Option ExtensionMap) (o : Option Span)
    → option_map_or (λ r. name_of r.metadata) (option_map (λ r. see mask r e) o) [] ≡ stored_name o
seen_name mask e None = refl
seen_name mask e (Some r) = refl

label_seen : (s : Store) (lane : ℕ) (mask : FilterSet) (known : SpanTexts) (x : ℕ) → seen_label (view_of s lane mask) known x ≡ stored_label s known x
label_seen s lane mask known x =
    ap (λ (name : List ℕ). label_text name (known x))
    (ap (λ o. option_map_or (λ r. name_of r.metadata) o []) (seen_at s mask x) ∙ seen_name mask (get s.extensions x) (get s.spans x))

-- ---- references stand for their spans

pub reverse-map : {A B : Type 0} (f : A → B) (xs : List A) → reverse (map f xs) ≡ map f (reverse xs)
reverse-map f [] = refl
reverse-map f (x ∷ xs) =
    reverse-append (f x ∷ []) (map f xs)
    ∙ ap (λ t. t ++ (f x ∷ [])) (reverse-map f xs) ∙ sym (map-append f (reverse xs) (x ∷ [])) ∙ ap (map f) (sym (reverse-append (x ∷ []) xs))

pub flat_map-map : {A B : Type 0} (f : A → B) (g : B → List ℕ) (xs : List A) → flat_map g (map f xs) ≡ flat_map (λ x. g (f x)) xs
flat_map-map f g [] = refl
flat_map-map f g (x ∷ xs) = ap (λ (t : List ℕ). g (f x) ++ t) (flat_map-map f g xs)

-- the spans of the scope found are those that the view shows
pub around_found : {S : Type 0} (registry : S → RegistryState) (c : ContextMut S) (look : Context S) (e : Event) (found : Option (Scope S)) (known : SpanTexts)
    → LooksAtLent c look → GivesScope registry look (event_shown (event_parent e)) found
    → flat_map (reference_label known) (reverse (given registry found)) ≡ around_text e (view_lent registry c) known
around_found {S} registry c look e found known l h =
    let f = reference_to registry (subscriber_lent c) (filters_in look) in
    let s = (registry (subscriber_lent c)).store in
    let spans = spans_round e (view_lent registry c) in
    ap (λ (rs : List (Reference S)). flat_map (reference_label known) (reverse rs)) (lent registry c look (event_shown (event_parent e)) found l h)
    ∙ ap (flat_map (reference_label known)) (reverse-map f spans)
    ∙ flat_map-map f (reference_label known) (reverse spans)
    ∙ (λ i. flat_map (λ x. sym (label_seen s (lane_lent c).0 (filters_lent c) known x) i) (reverse spans))

-- ---- what is written of an event is its line

pub line_written : (names : Naming) (e : Event) (v : View)
    (known : SpanTexts) (lane : ℕ) (level : Level) (m : Metadata) (values : List (Bor (List ℕ) × FieldValue)) (begun mid new around : List ℕ)
    → begun ≡ begun_text names lane level → mid ≡ begun ++ spaced around → new ≡ mid ++ rest_text m values
    → lane ≡ v.lane
    → level ≡ level_of (event_metadata e) → around ≡ around_text e v known → m ≡ event_metadata e → values ≡ event_values e
    → new ≡ event_line names e v known
line_written names e v known lane level m values begun mid new around first second third lane_is level_is around_is m_is values_is =
    third ∙ ap (λ (t : List ℕ). t ++ rest_text m values) (second ∙ ap (λ (t : List ℕ). t ++ spaced around) first)
    ∙ (λ i. begun_text names (lane_is i) (level_is i) ++ spaced (around_is i) ++ rest_text (m_is i) (values_is i))

-- ---- extensions make no difference

module _ (s : Store) (lane : ℕ) (mask : FilterSet) (law : ShowsPlainly s lane mask) where
  pub round_plainly : (e : Event) → spans_round e (view_of s lane mask) ≡ spans_round e (plain_view s lane mask)
  round_plainly e = ap (scope (view_of s lane mask).spans) (law.event (event_parent e)) ∙ law.scope (event_shown (event_parent e) (plain_view s lane mask))

  label_plainly : (known : SpanTexts) (x : ℕ) → seen_label (view_of s lane mask) known x ≡ seen_label (plain_view s lane mask) known x
  label_plainly known x = label_seen s lane mask known x ∙ sym (label_seen (record s { extensions = empty }) lane mask known x)

  around_plainly : (e : Event) (known : SpanTexts) → around_text e (view_of s lane mask) known ≡ around_text e (plain_view s lane mask) known
  around_plainly e known = λ i. flat_map (λ x. label_plainly known x i) (reverse (round_plainly e i))

  pub event_plainly : (names : Naming) (e : Event) (known : SpanTexts)
      → event_line names e (view_of s lane mask) known ≡ event_line names e (plain_view s lane mask) known
  event_plainly names e known =
      ap (λ (around : List ℕ). begun_text names lane (level_of (event_metadata e)) ++ spaced around ++ rest_text (event_metadata e) (event_values e))
      (around_plainly e known)
