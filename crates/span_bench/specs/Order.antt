-- The stacks by how their names begin.
use Rattle.std.specs.Prelude.{codes, List, ℕ}
use Rattle.span_bench.specs.declared.order.Stack.{Stack}
use Rattle.span_bench.specs.declared.order.Stack.TheVariants.{Directives, Plain, Filters, List as Listed, Nested, Keeper}

-- what the name of a stack begins with
abbrev pub prefix_of : Stack → List ℕ
prefix_of Plain = codes "plain"
prefix_of (Filters layers) = codes "filters="
prefix_of (Listed layers) = codes "list="
prefix_of (Nested layers) = codes "nested="
prefix_of Keeper = codes "keeper"
prefix_of (Directives directives) = codes "directives="
