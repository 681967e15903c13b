-- Sums by stacks, as a map keeps them.
use Rattle.std.specs.Prelude.{ℕ, map, String, string_bytes}
use Rattle.std.specs.BTreeMap.{BTreeMap}
use Rattle.std.specs.declared.alloc.Global.{Global}
use Rattle.span_export.specs.Folded.{Sums}

-- the sums that a map has
abbrev pub sums_in : BTreeMap (String Global) ℕ → Sums
sums_in m = map (λ e. (string_bytes e.0, e.1)) m.entries
