-- The workloads of one thread by their names.
use Rattle.std.specs.Prelude.{codes, List, ℕ}
use Rattle.span_bench.specs.declared.workload.Workload.{Workload}
use Rattle.span_bench.specs.declared.workload.Workload.TheVariants.{NewAndDrop, EnterAndExit, Event, EventBy, TracedEvent, TracedValues, TracedAboveHint, TracedSpan, Cascade, Scope, FromRoot, Replace}

-- the name of a workload
abbrev pub name_of : Workload → List ℕ
name_of NewAndDrop = codes "new_and_drop"
name_of EnterAndExit = codes "enter_and_exit"
name_of Event = codes "event"
name_of EventBy = codes "event_by"
name_of TracedEvent = codes "traced_event"
name_of TracedValues = codes "traced_values"
name_of TracedAboveHint = codes "traced_above_hint"
name_of TracedSpan = codes "traced_span"
name_of Cascade = codes "cascade"
name_of Scope = codes "scope"
name_of FromRoot = codes "from_root"
name_of Replace = codes "replace"
