-- What the threads of an order make.
use Rattle.std.specs.Prelude.{ℕ, ◌*◌}
use Rattle.span_bench.specs.ThreadWorkload.{requests_of}
use Rattle.span_bench.specs.declared.thread_order.ThreadOrder.{ThreadOrder}

-- how many requests all threads make
abbrev pub all_requests : ThreadOrder → ℕ
all_requests o = o.threads * o.rounds * requests_of o.workload
