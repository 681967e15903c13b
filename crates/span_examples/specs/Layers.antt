-- How the layers go on.
use Rattle.std.specs.Prelude.{ℕ, ◌+◌, ◌-◌, ◌^◌, min, max, Option}
use Rattle.std.specs.Option.{option_and_then, option_map_or}
use Rattle.span_core.specs.Span.{number_of}
use Rattle.span_core.specs.declared.span.Id.{Id}
use Rattle.span_extensions.specs.Extensions.{Place, value_under}
use Rattle.span_extensions.specs.declared.tag.Tag.{Tag}
use Rattle.span_registry.specs.Behaviour.{Notice, OnClose, OnNewSpan}
use Rattle.span_registry.specs.View.{View, extensions_shown, shown}
use Rattle.span_examples.specs.declared.layer.SpanCounter.{SpanCounter}
use Rattle.span_examples.specs.declared.layer.Timing.{Timing}

-- how many spans were opened
abbrev pub opened_by : SpanCounter → ℕ
opened_by x = x.opened

-- how many spans were closed
abbrev pub closed_by : SpanCounter → ℕ
closed_by x = x.closed

-- one more, as far as it can count
abbrev pub one_more : ℕ → ℕ
one_more n = min (n + 1) (2 ^ 64 - 1)

-- the counter after a notice
abbrev pub counted : Notice → SpanCounter → SpanCounter
counted (OnNewSpan attrs id) x = record x { opened = one_more x.opened }
counted (OnClose id) x = record x { closed = one_more x.closed }
counted other x = x

-- the longest time that a span was open
abbrev pub longest_of : Timing → ℕ
longest_of x = x.longest

-- the value under this tag of a span's extensions, where the span is shown
abbrev pub number_seen : {T : Type 0} → Place T → Tag T → Id → View → Option T
number_seen place tag id v =
    option_and_then (λ m. value_under place m tag)
    (option_and_then (λ x. extensions_shown x v) (shown (number_of id) v))

-- the timing layer, timed to this moment
abbrev pub ticked : Timing → Timing
ticked x = record x { clock = one_more x.clock }

-- the timing layer after a notice
abbrev pub timed : Place ℕ → Notice → View → Timing → Timing
timed place (OnClose id) v x =
    record (ticked x) {
      longest = option_map_or (λ start. max x.longest (one_more x.clock - start))
          (number_seen place x.start id v) x.longest;
    }
timed place other v x = ticked x
