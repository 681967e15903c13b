-- What a counter counts.
use Rattle.std.specs.Prelude.{◌≡◌, ℕ, ◌+◌, ◌-◌, ◌^◌, min}
use Rattle.span_stacks.specs.Layered.{inner_of, outer_of}
use Rattle.span_layers.specs.Observe.{observer_of}
use Rattle.span_stacks.specs.declared.layered.Layered.{Layered}
use Rattle.span_layers.specs.declared.observe.Observer.{Observer}
use Rattle.span_bench.specs.declared.counter.Counter.{Counter}

-- how many notices it counted
abbrev pub notices_of : Counter → ℕ
notices_of x = x.notices

-- the counter after one more, as far as it can count
abbrev pub counted : Counter → Counter
counted x = record x { notices = min (x.notices + 1) (2 ^ 64 - 1) }

-- a layer that has counted nothing
abbrev pub IsNew : Observer Counter → Type 0
IsNew x = notices_of (observer_of x) ≡ 0

-- two layers that have counted nothing
abbrev pub AreNew : Layered (Observer Counter) (Observer Counter) → Type 0
AreNew pair = IsNew (inner_of pair) × IsNew (outer_of pair)
