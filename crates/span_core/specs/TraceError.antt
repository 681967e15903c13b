-- The numbers of refusals.
use Rattle.std.specs.Prelude.{ℕ}
use Rattle.span_core.specs.declared.error.TraceError.{TraceError}
use Rattle.span_core.specs.declared.error.TraceError.TheVariants.{UnknownSpan, UnknownParent, NoHandle, TooManyFilters, TagTaken, CallsiteMismatch, CountFull, TooManySpans, OutOfMemory, NotSettable}

-- the number of a refusal
abbrev pub refusal_number : TraceError → ℕ
refusal_number (UnknownSpan id) = 1
refusal_number (UnknownParent id) = 2
refusal_number (NoHandle id) = 3
refusal_number TooManyFilters = 4
refusal_number TagTaken = 5
refusal_number CallsiteMismatch = 6
refusal_number (CountFull id) = 7
refusal_number TooManySpans = 8
refusal_number OutOfMemory = 9
refusal_number (NotSettable number) = 10
