-- What a filter by what spans were given answers, and how it goes on.
use Rattle.std.specs.Prelude.{◌≡◌, ◌≤◌, ◌&&◌, ◌||◌, ◌++◌, ℕ, List, [], Bool, true, false, ◌==◌, not, length, IsFalse, IsTrue, map, take, if◌then◌else◌}
use Rattle.std.specs.Prelude.{Option, None, Some}
use Rattle.std.specs.List.{filter, list_any}
use Rattle.span_core.specs.Level.{passes_level}
use Rattle.span_core.specs.Metadata.{level_of}
use Rattle.span_core.specs.Span.{metadata_of, number_of, recorded_values, values_of}
use Rattle.span_core.specs.declared.interest.Interest.TheVariants.{Always, Never, Sometimes}
use Rattle.span_core.specs.declared.interest.Interest.{Interest}
use Rattle.span_core.specs.declared.level.Level.{Level}
use Rattle.span_core.specs.declared.level.LevelFilter.{LevelFilter}
use Rattle.span_core.specs.declared.level.TheConstants.LevelFilter.{OFF}
use Rattle.span_core.specs.declared.metadata.Metadata.{Metadata}
use Rattle.span_fields.specs.Directive.{Values, is_met, level_by, most_of, passes_somewhere, passes_within}
use Rattle.span_fields.specs.declared.directive.FieldDirective.{FieldDirective}
use Rattle.span_core.specs.declared.span.Id.{Id}
use Rattle.span_fields.specs.declared.filter.FieldFilter.{FieldFilter}
use Rattle.span_fields.specs.declared.filter.Within.{Within}
use Rattle.span_filters.specs.Filter.{FilterSteps}
use Rattle.span_registry.specs.Behaviour.{Behaviour, Notice, OnClose, OnNewSpan, OnRecord}
use Rattle.span_registry.specs.View.{View, current_shown, metadata_shown, scope, view_of}
use Rattle.span_targets.specs.EnvFilter.{is_span}

-- what a filter knows of an open span: the levels that pass within it by a directive that it meets
abbrev pub Entry : Type 0
Entry = Within

-- the span that an entry is of
abbrev pub span_of : Entry → ℕ
span_of e = number_of e.span

-- the levels that pass within the span of an entry
abbrev pub level_of_entry : Entry → LevelFilter
level_of_entry e = e.level

-- the directives of a filter
abbrev pub directives_of : FieldFilter → List FieldDirective
directives_of f = f.directives.items

-- what a filter knows of open spans
abbrev pub within_of : FieldFilter → List Entry
within_of f = f.within.items

-- whether a filter failed once for want of memory
abbrev pub has_failed : FieldFilter → Bool
has_failed f = f.failed

-- whether a level passes within a span, by what is known
abbrev pub passes_in : List Entry → Level → ℕ → Bool
passes_in known l x = list_any (λ e. (span_of e == x) && passes_level (level_of_entry e) l) known

-- whether a level passes in the span that a lane is in, or in one above that, as a view shows them
abbrev pub passes_around : List Entry → Level → View → Bool
passes_around known l v = list_any (passes_in known l) (scope v.spans (current_shown v))

-- whether metadata pass wherever they come: as those of a span that a directive names
abbrev pub passes_anywhere : FieldFilter → Metadata → Bool
passes_anywhere f m = is_span m && passes_within (directives_of f) m

-- whether metadata pass in a view: wherever they come, or within a span that meets a directive
abbrev pub field_enabled : FieldFilter → Metadata → View → Bool
field_enabled f m v =
    passes_anywhere f m
    || (passes_somewhere (directives_of f) (level_of m)
    && passes_around (within_of f) (level_of m) v)

-- the interest: always, if metadata pass wherever they come; sometimes, if their level does by some
-- directive; else never
abbrev pub field_interest : FieldFilter → Metadata → Interest
field_interest f m =
    if passes_anywhere f m then Always
    else if passes_somewhere (directives_of f) (level_of m) then Sometimes else Never

-- all that a filter answers; its hint is the most that passes by a directive
abbrev pub field_answers : FieldFilter → Behaviour
field_answers f = record {
  enabled = field_enabled f;
  event = λ e v. true;
  interest = field_interest f;
  hint = Some (most_of OFF (directives_of f));
  takes = λ s. false;
}

-- what is known of a span by the directives that its values meet
abbrev pub met : List FieldDirective → Id → Metadata → Values → List Entry
met ds id m values =
    map (λ d. record { span = id; level = level_by d }) (filter (is_met m values) ds)

-- what is known of a span by its values, if its metadata are shown
abbrev pub met_shown : List FieldDirective → Id → Option Metadata → Values → List Entry
met_shown ds id None values = []
met_shown ds id (Some m) values = met ds id m values

-- a filter notes these, from the first on: all of them, unless it failed for want of memory
pub record Notes (more : List Entry) (f g : FieldFilter) : Type 0 where
  pub directives : directives_of g ≡ directives_of f
  pub count : ℕ
  pub within : within_of g ≡ within_of f ++ take count more
  pub whole : IsFalse (has_failed g) → length more ≤ count
  pub failed : IsTrue (has_failed f) → IsTrue (has_failed g)

-- a filter forgets a span
pub record Forgets (x : ℕ) (f g : FieldFilter) : Type 0 where
  pub directives : directives_of g ≡ directives_of f
  pub failed : has_failed g ≡ has_failed f
  pub within : within_of g ≡ filter (λ e. not (span_of e == x)) (within_of f)

-- a filter goes on by a notice: it notes what a new span was given, and what a span that is shown
-- is given later, and forgets a span that closes
abbrev pub GoesBy : Notice → View → FieldFilter → FieldFilter → Type 0
GoesBy (OnNewSpan attrs id) v f g =
    Notes (met (directives_of f) id (metadata_of attrs) (values_of attrs)) f g
GoesBy (OnRecord id values) v f g =
    Notes (met_shown (directives_of f) id (metadata_shown (number_of id) v)
    (recorded_values values)) f g
GoesBy (OnClose id) v f g = Forgets (number_of id) f g
GoesBy other v f g = g ≡ f

-- a filter goes on by each notice in the view that it has, and writes nothing
abbrev pub GoesOn : FilterSteps FieldFilter
GoesOn f e lane under v g w = GoesBy e (view_of v.store lane under) f g × (w ≡ v)
