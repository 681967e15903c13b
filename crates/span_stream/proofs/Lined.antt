-- Lines of JSON: of what is known of spans, and of what a view shows, extensions aside.
use Rattle.std.proofs.Common.{◌≡◌, ◌≤◌, ◌∙◌, ℕ, List, [], ◌∷◌, ◌++◌, Option, Result, Ok, Err, OnOk, IsUtf8, arith, ap, map, refl, subst, sym}
use Rattle.std.specs.Borrow.{Bor}
use Rattle.std.specs.Prelude.{◌==◌, OnErr, Some, codes, reverse}
use Rattle.json.specs.Lex.{tokens}
use Rattle.json.specs.Print.{print}
use Rattle.serde_json.specs.Data.{Data, Members, depth, members_depth}
use Rattle.serde_json.specs.Read.{max_depth, read}
use Rattle.serde_json.specs.Written.{IsInOrder}
use Rattle.span_core.specs.Event.{event_parent}
use Rattle.span_core.specs.Filters.{FilterSet}
use Rattle.span_core.specs.declared.event.Event.{Event}
use Rattle.span_core.specs.declared.field.FieldValue.{FieldValue}
use Rattle.span_store.specs.Store.{RegistryState, Store}
use Rattle.span_registry.specs.Context.{GivesScope, LooksAtLent, filters_in, filters_lent, lane_lent, subscriber_lent, view_lent}
use Rattle.span_registry.specs.Law.{ShowsPlainly}
use Rattle.span_registry.specs.References.{reference_to}
use Rattle.span_registry.specs.View.{View, event_shown, plain_view, view_of}
use Rattle.span_registry.specs.declared.context.Context.{Context}
use Rattle.span_registry.specs.declared.context.ContextMut.{ContextMut}
use Rattle.span_registry.specs.declared.scope.Scope.{Scope}
use Rattle.span_fmt.proofs.CallerLemmas.{name_plainly, name_seen, references_round, round_plainly}
use Rattle.span_stream.proofs.Tokens.{inert_is, inert_means}
use Rattle.span_stream.proofs.Shallow.{all_shallow, event_depth, one_flat, span_depth, values_flat}
use Rattle.span_stream.specs.Inert.{inert}
use Rattle.span_stream.specs.Json.{IsLineOf, event_object, objects_around, reference_object, seen_object}
use Rattle.span_fmt.specs.Lane.{Naming}
use Rattle.span_stream.specs.Members.{AreFlat, SpanMembers, with_members}
use Rattle.span_stream.specs.Object.{event_data, span_data}
use Rattle.span_fmt.specs.Tree.{given, spans_round}
use Rattle.span_stream.specs.Values.{with_values}

-- ---- what is known is flat

-- with other flat values of one span
pub with_flat : (x : ℕ) (ms : Members) (kept : SpanMembers) → AreFlat kept → members_depth ms ≤ 0 → AreFlat (with_members x ms kept)
with_flat x ms kept flat p = λ n. one_flat (x == n) ms (kept n) p (flat n)

-- after values are added, or none
pub added_flat : {T E : Type 0} (r : Result T E) (x : ℕ) (values : List (Bor (List ℕ) × FieldValue)) (old new : SpanMembers)
    → OnOk r (new ≡ with_members x (with_values values (old x)) old) → OnErr r (new ≡ old) → AreFlat old → AreFlat new
added_flat (Ok t) x values old new added unchanged flat =
    subst AreFlat (sym added) (with_flat x (with_values values (old x)) old flat (values_flat values (old x) (flat x)))
added_flat (Err e) x values old new added unchanged flat = subst AreFlat (sym unchanged) flat

-- ---- the object of an event

map-map : {A B D : Type 0} (f : A → B) (g : B → D) (xs : List A) → map g (map f xs) ≡ map (λ x. g (f x)) xs
map-map f g [] = refl
map-map f g (x ∷ xs) = ap (λ t. g (f x) ∷ t) (map-map f g xs)

-- the spans of the scope found are those that the view shows
pub objects_found : {S : Type 0} (registry : S → RegistryState)
    (c : ContextMut S) (look : Context S) (e : Event) (found : Option (Scope S)) (known : SpanMembers)
    → LooksAtLent c look → GivesScope registry look (event_shown (event_parent e)) found
    → map (reference_object known) (reverse (given registry found)) ≡ objects_around e (view_lent registry c) known
objects_found {S} registry c look e found known l h =
    let f = reference_to registry (subscriber_lent c) (filters_in look) in
    let s = (registry (subscriber_lent c)).store in
    let spans = reverse (spans_round e (view_lent registry c)) in
    ap (map (reference_object known)) (references_round registry c look e found l h)
    ∙ map-map f (reference_object known) spans
    ∙ (λ i. map (λ x. span_data (sym (name_seen s (lane_lent c).0 (filters_lent c) x) i) (known x)) spans)

-- extensions make no difference to them
pub object_plainly : (s : Store) (lane : ℕ) (mask : FilterSet)
    → ShowsPlainly s lane mask → (stamp : List ℕ) (e : Event) (known : SpanMembers) (names : Naming)
    → event_object stamp e (view_of s lane mask) known names ≡ event_object stamp e (plain_view s lane mask) known names
object_plainly s lane mask law stamp e known names =
    λ i. event_data stamp e lane (names lane) (map (λ x. span_data (name_plainly s lane mask x i) (known x)) (reverse (round_plainly s lane mask law e i)))

-- ---- the line of an event

-- an object of an event is shallow, so its text reads back, and is made inert
pub line_made : (stamp : List ℕ) (e : Event) (v : View) (known : SpanMembers) (names : Naming) (text line : List ℕ) (made : Data)
    → AreFlat known → made ≡ event_object stamp e v known names → (depth made ≤ max_depth → read text ≡ Some made)
    → IsInOrder text made → text ≡ print (tokens text) → IsUtf8 text → line ≡ inert text ++ codes "\n" → IsLineOf (event_object stamp e v known names) line
line_made stamp e v known names text line made flat is reads order compact utf8 grown =
    let shallow =
    event_depth stamp
    e v.lane (names v.lane) (objects_around e v known) (all_shallow (seen_object v known) (λ x. span_depth _ (known x) (flat x)) (reverse (spans_round e v))) in
    let few : depth made ≤ max_depth = omega (arith, shallow, ap depth is) in
    let means = inert_means text (event_object stamp e v known names) utf8 compact (reads few ∙ ap Some is) (subst (IsInOrder text) is order) in
    (inert text, means.0, means.1, means.2, inert_is text utf8, grown)
