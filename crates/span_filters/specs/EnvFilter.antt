-- What a filter by targets and spans answers.
use Rattle.std.specs.Prelude.{◌||◌, ℕ, List, Bool, true, false, if◌then◌else◌, Some}
use Rattle.std.specs.FinMap.{get}
use Rattle.std.specs.List.{list_any}
use Rattle.std.specs.Option.{option_map_or}
use Rattle.span_core.specs.Metadata.{level_of}
use Rattle.span_core.specs.declared.interest.Interest.TheVariants.{Always, Never, Sometimes}
use Rattle.span_core.specs.declared.interest.Interest.{Interest}
use Rattle.span_core.specs.declared.level.Level.{Level}
use Rattle.span_core.specs.declared.metadata.Metadata.{Metadata}
use Rattle.span_registry.specs.Behaviour.{Behaviour}
use Rattle.span_registry.specs.View.{SeenSpans, View, current_shown, scope}
use Rattle.span_targets.specs.EnvFilter.{most_of_all, passes_anywhere, passes_somewhere, passes_within, spans_of}
use Rattle.span_targets.specs.declared.env_filter.EnvFilter.{EnvFilter}
use Rattle.span_targets.specs.declared.span_directive.SpanDirective.{SpanDirective}

-- whether a level passes in the span with this id, as it is seen
abbrev pub passes_in : List SpanDirective → Level → SeenSpans → ℕ → Bool
passes_in ds l spans x = option_map_or (λ r. passes_within ds r.metadata l) (get spans x) false

-- whether a level passes in the span that a lane is in, or in one above that, as a view shows them
abbrev pub passes_around : List SpanDirective → Level → View → Bool
passes_around ds l v = list_any (passes_in ds l v.spans) (scope v.spans (current_shown v))

-- whether metadata pass in a view
abbrev pub env_enabled : EnvFilter → Metadata → View → Bool
env_enabled f m v = passes_anywhere f m || passes_around (spans_of f) (level_of m) v

-- the interest: always, if metadata pass in each view; sometimes, if their level does within some
-- span; else never
abbrev pub env_interest : EnvFilter → Metadata → Interest
env_interest f m =
    if passes_anywhere f m then Always
    else if passes_somewhere (spans_of f) (level_of m) then Sometimes else Never

-- all that a filter by targets and spans answers; its hint is the most that passes anywhere
abbrev pub env_answers : EnvFilter → Behaviour
env_answers f = record {
  enabled = env_enabled f;
  event = λ e v. true;
  interest = env_interest f;
  hint = Some (most_of_all f);
  takes = λ l. false;
}
