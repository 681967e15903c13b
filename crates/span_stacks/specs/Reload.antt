-- How a layer under a filter and two parts are reloaded.
use Rattle.std.specs.Prelude.{◌≡◌, ℕ, Bool, true, false}
use Rattle.span_core.specs.Filters.{has_filter}
use Rattle.span_core.specs.declared.filter.FilterId.{FilterId}
use Rattle.span_targets.specs.declared.setting.Setting.{Setting}
use Rattle.span_filters.specs.Filter.{FilterReloadSteps}
use Rattle.span_registry.specs.Reload.{ReloadSteps}

-- a filter takes a setting itself, or else what stands under it is reloaded
abbrev pub ReloadsIf : {F L : Type 0} → FilterReloadSteps F → ReloadSteps L → Bool → F → L → ℕ
    → Setting → F → L → Type 0
ReloadsIf own inside true f x n l g y = own f l g × (y ≡ x)
ReloadsIf own inside false f x n l g y = (g ≡ f) × inside x n l y

-- a layer under a filter is reloaded: the filter is where it has the number, else the layer
abbrev pub FilteredReloads : {F L : Type 0} → FilterReloadSteps F → ReloadSteps L → FilterId → F → L
    → ℕ → Setting → F → L → Type 0
FilteredReloads own inside id f x n l g y = ReloadsIf own inside (has_filter id n) f x n l g y

-- two parts are reloaded: both are
abbrev pub LayeredReloads : {L I : Type 0} → ReloadSteps L → ReloadSteps I → L → I → ℕ → Setting
    → L → I → Type 0
LayeredReloads outer inner x i n l y j = outer x n l y × inner i n l j
