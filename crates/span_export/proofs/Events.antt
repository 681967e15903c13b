-- Trace events, each a text of its own, can be read back.
use Rattle.std.proofs.Common.{◌≡◌, ◌≤◌, ℕ, List, [], ◌∷◌, arith, map, subst, sym}
use Rattle.std.specs.List.{AllByRecursion}
use Rattle.serde_json.specs.Data.{Data, depth, items_depth}
use Rattle.serde_json.specs.Read.{max_depth}
use Rattle.serde_json.specs.View.{items_of, view}
use Rattle.serde_json.specs.declared.value.Value.{Value}
use Rattle.span_export.proofs.Depth.{all_flat}
use Rattle.span_export.specs.Chrome.{events_since}
use Rattle.span_export.specs.Site.{named_in}
use Rattle.span_times.specs.declared.happening.Point.{Point}
use Rattle.span_times.specs.declared.kept.Table.{Table}

-- what is flat together is flat one by one
each_flat : (ds : List Data) → items_depth (items_of ds) ≤ 2 → AllByRecursion (λ d. depth d ≤ 127) ds
each_flat [] flat = tt
each_flat (d ∷ ds) flat = (omega (arith, flat), each_flat ds (omega (arith, flat)))

values_depth : (vs : List Value) → AllByRecursion (λ d. depth d ≤ 127) (map view vs) → AllByRecursion (λ v. depth (view v) ≤ max_depth) vs
values_depth [] h = tt
values_depth (v ∷ vs) h = (h.0, values_depth vs h.1)

pub events_are_shallow : (table : Table) (begin : ℕ) (ps : List Point) (vs : List Value)
    → map view vs ≡ events_since table begin ps → AllByRecursion (λ v. depth (view v) ≤ max_depth) vs
events_are_shallow table begin ps vs e =
    values_depth vs (subst (AllByRecursion (λ d. depth d ≤ 127)) (sym e)
    (each_flat (events_since table begin ps) (all_flat table (named_in table ps) begin [] ps)))
