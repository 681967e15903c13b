-- Scopes of spans, as a map keeps them.
use Rattle.std.specs.Prelude.{ℕ, List, [], ◌∷◌, Vec, map}
use Rattle.std.specs.BTreeMap.{BTreeMap, get}
use Rattle.std.specs.Option.{option_map_or}
use Rattle.std.specs.Ordering.{nat_cmp}
use Rattle.std.specs.declared.alloc.Global.{Global}
use Rattle.span_core.specs.Span.{number_of}
use Rattle.span_core.specs.declared.span.Id.{Id}
use Rattle.span_export.specs.Entry.{spans_in}
use Rattle.span_export.specs.Scope.{scope_on}
use Rattle.span_export.specs.declared.entry.Entry.{Entry}
use Rattle.span_export.specs.declared.folded.Stacks.TheVariants.{Entered, Scoped}
use Rattle.span_export.specs.declared.folded.Stacks.{Stacks}

-- the scopes that a map has
abbrev pub scope_in : BTreeMap ℕ (Vec Id Global) → ℕ → List ℕ
scope_in scopes x =
    option_map_or (λ scope. map number_of scope.items) (get nat_cmp scopes x) (x ∷ [])

-- the stacks that are meant
abbrev pub stacks_by : Stacks → ℕ → List Entry → List ℕ
stacks_by Entered = spans_in
stacks_by (Scoped scopes) = scope_on (scope_in scopes.now)
