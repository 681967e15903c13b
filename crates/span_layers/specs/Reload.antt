-- How a list and a layer that may be absent are reloaded: each part is.
use Rattle.std.specs.Prelude.{List, Option}
use Rattle.std.specs.List.{AllZip}
use Rattle.span_layers.specs.Optional.{OptionGoes}
use Rattle.span_registry.specs.Reload.{ReloadSteps}

-- a list is reloaded: all members are
abbrev pub ListReloads : {L : Type 0} → ReloadSteps L → ReloadSteps (List L)
ListReloads reloaded xs n l ys = AllZip (λ x y. reloaded x n l y) xs ys

-- a layer that may be absent is reloaded: one that is there is
abbrev pub OptionReloads : {L : Type 0} → ReloadSteps L → ReloadSteps (Option L)
OptionReloads reloaded x n l y = OptionGoes (λ a b. reloaded a n l b) x y
