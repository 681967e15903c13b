-- The roots that are noted.
use Rattle.std.specs.Prelude.{◌≡◌, ℕ, List}
use Rattle.std.specs.BTreeMap.{get}
use Rattle.std.specs.Option.{option_map_or}
use Rattle.std.specs.Ordering.{nat_cmp}
use Rattle.span_core.specs.Span.{number_of}
use Rattle.span_otlp.specs.Root.{root_in}
use Rattle.span_otlp.specs.declared.otlp.Traces.{Traces}
use Rattle.span_otlp.specs.declared.root.Roots.{Roots}
use Rattle.span_times.specs.declared.happening.Happening.{Happening}

-- the root that a span is below, as it was noted
abbrev pub root_by : Roots → ℕ → ℕ
root_by roots x = option_map_or number_of (get nat_cmp roots.found x) x

-- the roots by what happened are noted
abbrev pub AreRoots : List Happening → Roots → Type 0
AreRoots hs roots = (x : ℕ) → root_by roots x ≡ root_in hs x

-- the trace of a span, by its root
abbrev pub trace_by : {I : Type 0} → (I → ℕ → ℕ) → Traces I → ℕ → ℕ
trace_by trace_of traces x = trace_of traces.ids.now (root_by traces.roots x)
