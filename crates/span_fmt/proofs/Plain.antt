-- Extensions make no difference to what a tree writes.
use Rattle.std.proofs.Common.{◌≡◌, ◌∙◌, ℕ, List, [], ◌++◌, drop, Option, ap, refl}
use Rattle.std.specs.Borrow.{Bor}
use Rattle.std.specs.Option.{option_map_or}
use Rattle.std.specs.Prelude.{codes}
use Rattle.span_core.specs.Event.{event_metadata, event_parent, event_values}
use Rattle.span_core.specs.Filters.{FilterSet}
use Rattle.span_core.specs.Span.{number_of, recorded_values, values_of}
use Rattle.span_core.specs.declared.field.FieldValue.{FieldValue}
use Rattle.span_core.specs.declared.metadata.Metadata.{Metadata}
use Rattle.span_store.specs.Store.{Store}
use Rattle.span_registry.specs.Behaviour.{Notice, OnClose, OnEnter, OnEvent, OnExit, OnFollows, OnIdChange, OnNewSpan, OnRecord}
use Rattle.span_registry.specs.Law.{ShowsPlainly}
use Rattle.span_registry.specs.View.{event_shown, metadata_shown, plain_view, scope, shown, view_of}
use Rattle.span_fmt.specs.Lane.{Naming}
use Rattle.span_fmt.specs.Text.{head_text, tail_text}
use Rattle.span_fmt.specs.Tree.{notice_text, span_text, spans_above}

module _ (names : Naming) (s : Store) (lane : ℕ) (mask : FilterSet) (law : ShowsPlainly s lane mask) where
  pub above_plainly : (x : ℕ) → spans_above x (view_of s lane mask) ≡ spans_above x (plain_view s lane mask)
  above_plainly x = ap (drop 1) (ap (scope (view_of s lane mask).spans) (law.shown x) ∙ law.scope (shown x (plain_view s lane mask)))

  pub span_plainly : (mark : List ℕ) (x : ℕ) (values : List (Bor (List ℕ) × FieldValue))
      → span_text names mark x values (view_of s lane mask) ≡ span_text names mark x values (plain_view s lane mask)
  span_plainly mark x values =
      ap (λ (xs : List ℕ). option_map_or (λ m. head_text names lane xs ++ tail_text mark m values) (metadata_shown x (view_of s lane mask)) [])
      (above_plainly x)
      ∙ ap (λ (o : Option Metadata). option_map_or (λ m. head_text names lane (spans_above x (plain_view s lane mask)) ++ tail_text mark m values) o [])
      (law.metadata x)

  -- a notice is written as the view shows it, extensions aside
  pub notice_plainly : (e : Notice) → notice_text names e (view_of s lane mask) ≡ notice_text names e (plain_view s lane mask)
  notice_plainly (OnNewSpan attrs id) = span_plainly (codes ">") (number_of id) (values_of attrs)
  notice_plainly (OnRecord id values) = span_plainly (codes "~") (number_of id) (recorded_values values)
  notice_plainly (OnClose id) = span_plainly (codes "<") (number_of id) []
  notice_plainly (OnEvent e) =
      ap (λ (xs : List ℕ). head_text names lane xs ++ tail_text (codes "-") (event_metadata e) (event_values e))
      (ap (scope (view_of s lane mask).spans) (law.event (event_parent e)) ∙ law.scope (event_shown (event_parent e) (plain_view s lane mask)))
  notice_plainly (OnFollows id other) = refl
  notice_plainly (OnEnter id) = refl
  notice_plainly (OnExit id) = refl
  notice_plainly (OnIdChange id other) = refl
