-- What a tree writes: a line for each new span, record, close and event, a function of it, of what
-- the tree's own context shows, and of the names of lanes.
use Rattle.std.specs.Prelude.{◌≡◌, ℕ, Bool, List, [], ◌++◌, Option, codes, drop}
use Rattle.std.specs.Borrow.{Bor}
use Rattle.std.specs.Option.{option_map_or}
use Rattle.span_core.specs.Event.{event_metadata, event_parent, event_values}
use Rattle.span_core.specs.Span.{number_of, recorded_values, values_of}
use Rattle.span_core.specs.declared.event.Event.{Event}
use Rattle.span_core.specs.declared.field.FieldValue.{FieldValue}
use Rattle.span_layers.specs.Observe.{ObserverSteps}
use Rattle.span_store.specs.Store.{RegistryState}
use Rattle.span_registry.specs.Behaviour.{Notice, OnClose, OnEvent, OnNewSpan, OnRecord}
use Rattle.span_registry.specs.References.{Reference, to_give}
use Rattle.span_registry.specs.View.{View, event_shown, metadata_shown, plain_view, scope, shown}
use Rattle.span_registry.specs.declared.scope.Scope.{Scope}
use Rattle.span_fmt.specs.Lane.{Naming, names_in}
use Rattle.span_fmt.specs.Page.{Writes, is_cut, written}
use Rattle.span_fmt.specs.Text.{head_text, tail_text}
use Rattle.span_fmt.specs.declared.tree.Tree.{Tree}

-- the spans that a scope has yet to give, and none where there is no scope
abbrev pub given : {S : Type 0} → (S → RegistryState) → Option (Scope S) → List (Reference S)
given registry found = option_map_or (λ spans. to_give registry spans) found []

-- the spans that a view shows above a span, up to the root
abbrev pub spans_above : ℕ → View → List ℕ
spans_above x v = drop 1 (scope v.spans (shown x v))

-- the spans that a view shows round an event
abbrev pub spans_round : Event → View → List ℕ
spans_round e v = scope v.spans (event_shown (event_parent e) v)

-- the line of a span that a view shows, with this mark and these values
abbrev pub span_text : Naming → List ℕ → ℕ → List (Bor (List ℕ) × FieldValue) → View → List ℕ
span_text names mark x values v =
    option_map_or (λ m. head_text names v.lane (spans_above x v) ++ tail_text mark m values)
    (metadata_shown x v) []

-- the line of an event
abbrev pub event_text : Naming → Event → View → List ℕ
event_text names e v =
    head_text names v.lane (spans_round e v)
    ++ tail_text (codes "-") (event_metadata e) (event_values e)

-- what is written of a notice: a line of a new span, a record, a close or an event, and nothing of
-- any other
abbrev pub notice_text : Naming → Notice → View → List ℕ
notice_text names (OnNewSpan attrs id) v =
    span_text names (codes ">") (number_of id) (values_of attrs) v
notice_text names (OnRecord id values) v =
    span_text names (codes "~") (number_of id) (recorded_values values) v
notice_text names (OnClose id) v = span_text names (codes "<") (number_of id) [] v
notice_text names (OnEvent e) v = event_text names e v
notice_text names other v = []

-- what a tree has written
abbrev pub text_of : Tree → List ℕ
text_of x = written x.page

-- whether a tree found no memory for a line
abbrev pub has_failed : Tree → Bool
has_failed x = is_cut x.page

-- the names that a tree has of lanes
abbrev pub names_of : Tree → Naming
names_of x = names_in x.names

-- a tree writes what is due of a notice in what its context shows, extensions aside, keeps the names
-- of lanes, and leaves the registry unchanged
abbrev pub tree_steps : ObserverSteps Tree
tree_steps x e lane under v y w =
    Writes (notice_text (names_of x) e (plain_view v.store lane under)) x.page y.page
    × (names_of y ≡ names_of x) × (w ≡ v)
