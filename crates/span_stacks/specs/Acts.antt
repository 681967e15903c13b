-- How the filters in a layer under a filter, and in two parts, act, path by path.
use Rattle.std.specs.Prelude.{[], ◌∷◌}
use Rattle.span_core.specs.declared.filter.FilterId.{FilterId}
use Rattle.span_stacks.specs.Filtered.{IsNumber}
use Rattle.span_registry.specs.Behaviour.{Conduct}
use Rattle.span_registry.specs.Conducts.{ActsAt, Conducts}
use Rattle.span_registry.specs.Position.{Here, Inner, Outer, Position, Under}

-- the path of what is under a filter starts with that filter; the filter's own path has it alone
abbrev pub FilteredActs : {L : Type 0} → FilterId → (Conduct → Type 0) → ActsAt L → ActsAt L
FilteredActs id own inside x Here ((n, b) ∷ []) = IsNumber id n × own b
FilteredActs id own inside x (Under position) ((n, b) ∷ cs) =
    IsNumber id n × own b × inside x position cs
FilteredActs id own inside x position cs = ⊥

-- the paths of an outer part over an inner one: each part has its own
abbrev pub LayeredActs : {L I : Type 0} → ActsAt L → ActsAt I → L → I → Position → Conducts → Type 0
LayeredActs outer inner x i (Outer position) cs = outer x position cs
LayeredActs outer inner x i (Inner position) cs = inner i position cs
LayeredActs outer inner x i position cs = ⊥
