-- What proofs of callers need: the spans round an event, by the scope that a context gives and by what a view shows, and extensions aside.
use Rattle.std.proofs.Common.{◌≡◌, ◌∙◌, ℕ, List, [], ◌∷◌, ◌++◌, map, Option, Some, None, refl, sym, ap}
use Rattle.std.proofs.lemmas.List.{map-append, reverse-append}
use Rattle.std.specs.FinMap.{empty, get}
use Rattle.std.specs.Option.{option_map, option_map_or}
use Rattle.std.specs.Prelude.{reverse}
use Rattle.span_core.specs.Event.{event_parent}
use Rattle.span_core.specs.Filters.{FilterSet}
use Rattle.span_core.specs.Metadata.{name_of}
use Rattle.span_core.specs.declared.event.Event.{Event}
use Rattle.span_extensions.specs.declared.extensions.ExtensionMap.{ExtensionMap}
use Rattle.span_store.specs.Store.{RegistryState, Span, Store}
use Rattle.span_registry.proofs.Ancestry.{seen_at}
use Rattle.span_registry.specs.Context.{GivesScope, LooksAtLent, filters_in, subscriber_lent, view_lent}
use Rattle.span_registry.specs.Law.{ShowsPlainly}
use Rattle.span_registry.specs.References.{Reference, reference_to}
use Rattle.span_registry.specs.View.{event_shown, plain_view, scope, see, view_of}
use Rattle.span_registry.specs.declared.context.Context.{Context}
use Rattle.span_registry.specs.declared.context.ContextMut.{ContextMut}
use Rattle.span_registry.specs.declared.scope.Scope.{Scope}
use Rattle.span_fmt.proofs.Scopes.{lent}
use Rattle.span_fmt.specs.Tree.{given, spans_round}

-- the name of a span of the store
abbrev pub stored_name : Option Span → List ℕ
stored_name o = option_map_or (λ s. name_of s.metadata) o []

shown_name : (mask : FilterSet) (e : Option ExtensionMap) (o : Option Span)
    → option_map_or (λ r. name_of r.metadata) (option_map (λ r. see mask r e) o) [] ≡ stored_name o
shown_name mask e None = refl
shown_name mask e (Some r) = refl

-- a span's name that a view shows is what the store has
pub name_seen : (s : Store) (lane : ℕ) (mask : FilterSet) (x : ℕ)
    → option_map_or (λ r. name_of r.metadata) (get (view_of s lane mask).spans x) [] ≡ stored_name (get s.spans x)
name_seen s lane mask x = ap (λ o. option_map_or (λ r. name_of r.metadata) o []) (seen_at s mask x) ∙ shown_name mask (get s.extensions x) (get s.spans x)

-- extensions aside, a view shows the same name
pub name_plainly : (s : Store) (lane : ℕ) (mask : FilterSet) (x : ℕ)
    → option_map_or (λ r. name_of r.metadata) (get (view_of s lane mask).spans x) []
    ≡ option_map_or (λ r. name_of r.metadata) (get (plain_view s lane mask).spans x) []
name_plainly s lane mask x = name_seen s lane mask x ∙ sym (name_seen (record s { extensions = empty }) lane mask x)

reversed_map : {A B : Type 0} (f : A → B) (xs : List A) → reverse (map f xs) ≡ map f (reverse xs)
reversed_map f [] = refl
reversed_map f (x ∷ xs) =
    reverse-append (f x ∷ []) (map f xs)
    ∙ ap (λ t. t ++ (f x ∷ [])) (reversed_map f xs) ∙ sym (map-append f (reverse xs) (x ∷ [])) ∙ ap (map f) (sym (reverse-append (x ∷ []) xs))

-- the references that a scope of an event gives, from the root on, are to the spans that the view shows round it
pub references_round : {S : Type 0} (registry : S → RegistryState) (c : ContextMut S) (look : Context S) (e : Event) (found : Option (Scope S))
    → LooksAtLent c look → GivesScope registry look (event_shown (event_parent e)) found
    → reverse (given registry found) ≡ map (reference_to registry (subscriber_lent c) (filters_in look)) (reverse (spans_round e (view_lent registry c)))
references_round {S} registry c look e found l h =
    ap (λ (rs : List (Reference S)). reverse rs) (lent registry c look (event_shown (event_parent e)) found l h)
    ∙ reversed_map (reference_to registry (subscriber_lent c) (filters_in look)) (spans_round e (view_lent registry c))

-- extensions aside, a view shows the same spans round an event
pub round_plainly : (s : Store) (lane : ℕ) (mask : FilterSet) → ShowsPlainly s lane mask
    → (e : Event) → spans_round e (view_of s lane mask) ≡ spans_round e (plain_view s lane mask)
round_plainly s lane mask law e =
    ap (scope (view_of s lane mask).spans) (law.event (event_parent e)) ∙ law.scope (event_shown (event_parent e) (plain_view s lane mask))
