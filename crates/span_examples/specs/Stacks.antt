-- A counter of spans under a level, on a registry: its stack, and what it counts.
use Rattle.std.specs.Prelude.{◌≡◌, ◌≤◌, ℕ, if◌then◌else◌, Some}
use Rattle.span_core.specs.Level.{passes_level}
use Rattle.span_core.specs.Metadata.{level_of}
use Rattle.span_core.specs.Span.{metadata_of}
use Rattle.span_core.specs.declared.error.TraceError.TheVariants.{TooManyFilters}
use Rattle.span_core.specs.declared.error.TraceError.{TraceError}
use Rattle.span_core.specs.declared.filter.TheConstants.FilterId.{LIMIT}
use Rattle.span_core.specs.declared.level.LevelFilter.{LevelFilter}
use Rattle.span_core.specs.declared.span.Attributes.{Attributes}
use Rattle.span_core.specs.declared.span.Id.{Id}
use Rattle.span_stacks.specs.Filtered.{IsNumber, filter_of, id_of, layer_of}
use Rattle.span_stacks.specs.Layered.{outer_of}
use Rattle.span_layers.specs.Observe.{observer_of}
use Rattle.span_stacks.specs.declared.filtered.Filtered.{Filtered}
use Rattle.span_stacks.specs.declared.layered.Layered.{Layered}
use Rattle.span_layers.specs.declared.observe.Observer.{Observer}
use Rattle.span_store.specs.Store.{RegistryState}
use Rattle.span_registry.specs.Behaviour.{OnNewSpan}
use Rattle.span_examples.specs.Layers.{counted, opened_by}
use Rattle.span_examples.specs.declared.layer.SpanCounter.{SpanCounter}

-- a counter of spans under a level, on a registry
abbrev pub Counted : Type 0
Counted = Layered (Filtered (Observer SpanCounter) LevelFilter) RegistryState

-- the counter of a stack
abbrev pub counter_of : Counted → SpanCounter
counter_of x = observer_of (layer_of (outer_of x))

-- the level that the counter stands under
abbrev pub level_in : Counted → LevelFilter
level_in x = filter_of (outer_of x)

-- the filter of a stack has a number
abbrev pub IsNumbered : Counted → Type 0
IsNumbered x = (n : ℕ) × IsNumber (id_of (outer_of x)) (Some n)

-- a stack counted nothing yet, under this level
pub record StartsToCount (level : LevelFilter) (x : Counted) : Type 0 where
  pub number : IsNumbered x
  pub under : level_in x ≡ level
  pub opened : opened_by (counter_of x) ≡ 0

-- the registry handed out all numbers for filters
pub record HasNoRoom (s : RegistryState) (error : TraceError) : Type 0 where
  pub full : LIMIT ≤ s.filters
  pub reason : error ≡ TooManyFilters

-- a new span is counted where the level passes it, and nowhere else
abbrev pub CountsWhatPasses : Attributes → Counted → Counted → Id → Type 0
CountsWhatPasses attrs old new id =
    counter_of new ≡ (if passes_level (level_in old) (level_of (metadata_of attrs))
    then counted (OnNewSpan attrs id) (counter_of old) else counter_of old)
