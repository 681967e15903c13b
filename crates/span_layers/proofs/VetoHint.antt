-- The hint of a filter as a layer.
use Rattle.std.specs.Prelude.{Option}
use Rattle.std.proofs.Common.{ap, sym, ◌∙◌}
use Rattle.span_core.specs.declared.level.LevelFilter.{LevelFilter}
use Rattle.span_filters.specs.Filter.{Says}
use Rattle.span_layers.specs.Veto.{VetoForm}
use Rattle.span_registry.specs.Behaviour.{Behaviour}
use Rattle.span_registry.specs.Question.{ShowsBy, hint_of}

-- its hint is the filter's
pub veto_hint : (has : Behaviour → Type 0) (said : Option LevelFilter) → Says has (λ a. a.hint) said → ShowsBy (VetoForm has) hint_of said
veto_hint has said says f h = says h.0 h.1 ∙ ap hint_of (sym h.2)
