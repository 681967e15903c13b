-- What a filter by targets and spans says: what passes by its targets, and what within spans.
use Rattle.std.specs.Prelude.{◌≡◌, ◌&&◌, ◌||◌, ◌++◌, ℕ, List, [], ◌∷◌, length, take, bytes_eq, string_bytes, Bool, true, false}
use Rattle.std.specs.List.{list_any}
use Rattle.span_core.specs.Level.{greater, passes_level}
use Rattle.span_core.specs.Metadata.{kind_of, level_of, name_of, target_of}
use Rattle.span_core.specs.declared.level.Level.{Level}
use Rattle.span_core.specs.declared.level.LevelFilter.{LevelFilter}
use Rattle.span_core.specs.declared.metadata.Makes.TheVariants.{Events, Spans}
use Rattle.span_core.specs.declared.metadata.Makes.{Makes}
use Rattle.span_core.specs.declared.metadata.Metadata.{Metadata}
use Rattle.span_targets.specs.Targets.{most_by, wants}
use Rattle.span_targets.specs.declared.env_filter.EnvFilter.{EnvFilter}
use Rattle.span_targets.specs.declared.span_directive.SpanDirective.{SpanDirective}
use Rattle.span_targets.specs.declared.targets.Targets.{Targets}

-- what the target of the spans that a directive names begins with
abbrev pub target_within : SpanDirective → List ℕ
target_within d = string_bytes d.target

-- the name of the spans that a directive names
abbrev pub name_within : SpanDirective → List ℕ
name_within d = string_bytes d.name

-- the levels that pass within the spans that a directive names
abbrev pub level_within : SpanDirective → LevelFilter
level_within d = d.level

-- the directive has these parts
pub record IsDirective (front called : List ℕ) (most : LevelFilter) (d : SpanDirective)
    : Type 0 where
  pub target : target_within d ≡ front
  pub name : name_within d ≡ called
  pub level : level_within d ≡ most

-- whether a span with these metadata is one that a directive names: by its name, and by what its
-- target begins with
abbrev pub names_span : Metadata → SpanDirective → Bool
names_span m d =
    bytes_eq (name_within d) (name_of m)
    && bytes_eq (target_within d) (take (length (target_within d)) (target_of m))

-- whether a level passes within a span with these metadata, by one of the directives
abbrev pub passes_within : List SpanDirective → Metadata → Level → Bool
passes_within ds m l = list_any (λ d. names_span m d && passes_level (level_within d) l) ds

-- whether a level passes within some span
abbrev pub passes_somewhere : List SpanDirective → Level → Bool
passes_somewhere ds l = list_any (λ d. passes_level (level_within d) l) ds

-- the most that passes within a span, or what is at hand
abbrev pub most_within : LevelFilter → List SpanDirective → LevelFilter
most_within most [] = most
most_within most (d ∷ ds) = most_within (greater most (level_within d)) ds

-- whether a callsite makes spans
abbrev pub makes_spans : Makes → Bool
makes_spans Spans = true
makes_spans Events = false

-- whether metadata are of spans
abbrev pub is_span : Metadata → Bool
is_span m = makes_spans (kind_of m).0

-- what a filter lets pass by targets, within spans and outside of them
abbrev pub targets_in : EnvFilter → Targets
targets_in f = f.targets

-- the directives by which a filter lets more pass within spans
abbrev pub spans_of : EnvFilter → List SpanDirective
spans_of f = f.spans.items

-- a filter goes by the same targets and spans
abbrev pub IsSameFilter : EnvFilter → EnvFilter → Type 0
IsSameFilter old new = (targets_in new ≡ targets_in old) × (spans_of new ≡ spans_of old)

-- a directive for spans stands behind the others, and all else is as it was
pub record AddsSpan (front called : List ℕ) (most : LevelFilter) (old new : EnvFilter)
    : Type 0 where
  pub directive : SpanDirective
  pub parts : IsDirective front called most directive
  pub spans : spans_of new ≡ spans_of old ++ directive ∷ []
  pub targets : targets_in new ≡ targets_in old

-- the most that passes anywhere: by targets, or within spans
abbrev pub most_of_all : EnvFilter → LevelFilter
most_of_all f = most_within (most_by (targets_in f)) (spans_of f)

-- whether metadata pass in each view: by their target, or as those of a span that is named
abbrev pub passes_anywhere : EnvFilter → Metadata → Bool
passes_anywhere f m =
    wants (targets_in f) m || (is_span m && passes_within (spans_of f) m (level_of m))
