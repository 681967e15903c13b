-- What the layer takes of a span that it is shown.
use Rattle.std.proofs.Common.{◌≡◌, ℕ, true, false, List, MatchOption, Option, Some, Result, Ok, Err, subst}
use Rattle.std.specs.Prelude.{OnErr, OnOk}
use Rattle.std.specs.Result.{is_err}
use Rattle.std.specs.declared.alloc.Global.{Global}
use Rattle.std.specs.declared.string.String.{String}
use Rattle.span_error.specs.Kept.{KeepsOrFails, TakesFields}
use Rattle.span_error.specs.declared.layer.ErrorLayer.{ErrorLayer}
use Rattle.span_extensions.specs.Extensions.{Place}
use Rattle.span_extensions.specs.declared.extensions.ExtensionMap.{ExtensionMap}
use Rattle.span_registry.specs.View.{View, extensions_shown}
use Rattle.span_store.specs.Store.{RegistryState, with_extensions}

-- what holds of a result that is a refusal, and of one that isn't
pub at_refusal : {A E P : Type 0} (r : Result A E) → is_err r ≡ true → OnErr r P → P
at_refusal (Ok a) e p = let no : false ≡ true = e in absurd (cc)
at_refusal (Err x) e p = p

pub at_success : {A E P : Type 0} (r : Result A E) → is_err r ≡ false → OnOk r P → P
at_success (Ok a) e p = p
at_success (Err x) e p = let no : true ≡ false = e in absurd (cc)

-- fields of a span with these extensions
pub taken : (texts : Place (String Global)) (id : ℕ) (given : List ℕ) (v : View) (x y : ErrorLayer) (s t : RegistryState) (m n : ExtensionMap)
    → Some m ≡ extensions_shown id v → KeepsOrFails texts given x m y n → t ≡ with_extensions s id n → TakesFields texts id given v x s y t
taken texts id given v x y s t m n is kept after =
    subst
    (λ (o : Option ExtensionMap). MatchOption o ((y ≡ x) × (t ≡ s)) (λ m. (n : ExtensionMap) × KeepsOrFails texts given x m y n × (t ≡ with_extensions s id n)))
    is (n, kept, after)
