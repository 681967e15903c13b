-- The workloads of threads by their names, and what they ask of a receiver.
use Rattle.std.specs.Prelude.{codes, List, ℕ}
use Rattle.span_bench.specs.declared.thread_workload.ThreadWorkload.{ThreadWorkload}
use Rattle.span_bench.specs.declared.thread_workload.ThreadWorkload.TheVariants.{Event, NewAndDrop, TracedEvent, TracedSpan, EventPastHint, PassesHint}

-- the name of a workload
abbrev pub name_of : ThreadWorkload → List ℕ
name_of Event = codes "event"
name_of NewAndDrop = codes "new_and_drop"
name_of TracedEvent = codes "traced_event"
name_of TracedSpan = codes "traced_span"
name_of EventPastHint = codes "event_past_hint"
name_of PassesHint = codes "passes_hint"

-- how many requests a round makes
abbrev pub requests_of : ThreadWorkload → ℕ
requests_of Event = 1
requests_of NewAndDrop = 2
requests_of TracedEvent = 1
requests_of TracedSpan = 2
requests_of EventPastHint = 1
requests_of PassesHint = 0
