-- What a leaf is notified of it can read: its own context shows the span that a notice is of; and a
-- leaf is notified of a span's close if it was notified of the span.
use Rattle.std.specs.Prelude.{◌≡◌, ℕ, ◌<◌, true, Some, IfSome}
use Rattle.std.specs.FinMap.{get}
use Rattle.span_core.specs.Span.{metadata_of, number_of}
use Rattle.span_core.specs.declared.filter.TheConstants.FilterId.{LIMIT}
use Rattle.span_core.specs.declared.span.{Attributes.Attributes, Lane.Lane, Id.Id}
use Rattle.span_dispatch.specs.Outcome.{IsVerdict}
use Rattle.span_stacks.specs.Verdict.{AreDistinct, numbers_of}
use Rattle.span_store.specs.Store.{Span, Store}
use Rattle.span_registry.specs.Behaviour.{OnClose, OnNewSpan, span_in}
use Rattle.span_registry.specs.Form.{Form}
use Rattle.span_registry.specs.{Hooks.no_filter, Position.Position, Position.Told, View.is_shown}
use Rattle.span_registry.specs.{Reload.KeepsRules, Path.Path, Path.passes_path, Path.path_at}

-- the leaf's own context, when it is notified, shows the span that the notice is of
abbrev pub ShowsItsSpan : Told → Type 0
ShowsItsSpan told =
    IfSome (span_in told.notice) (λ id. is_shown told.view.spans (number_of id) ≡ true)

-- where a form's filters kept their numbers, a path passes the close of a span exactly if it passed
-- the new span, by whose verdict the span is kept
abbrev pub ClosesAsItOpened : Type 0
ClosesAsItOpened =
    (f g : Form) (position : Position) (path other : Path) (attrs : Attributes) (id : Id) (r : Span)
    (s t : Store) (lane later : Lane)
    → AreDistinct f → ((k : ℕ) → numbers_of f k ≡ true → k < LIMIT) → KeepsRules f g
    → path_at f position ≡ Some path → path_at g position ≡ Some other
    → IsVerdict f (metadata_of attrs) s lane r.verdict → get t.spans (number_of id) ≡ Some r
    → passes_path other (OnClose id) t later.0 no_filter
    ≡ passes_path path (OnNewSpan attrs id) s lane.0 no_filter
