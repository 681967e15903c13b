-- What becomes of a batch by the answer to a request.
use Rattle.std.specs.Prelude.{ℕ, ◌+◌, ◌*◌, ◌-◌, ◌^◌, ◌==◌, ◌&&◌, ◌||◌, nat_le, nat_lt, min, Bool, true, false, if◌then◌else◌, Some}
use Rattle.span_sender.specs.declared.answer.Answer.TheVariants.{Failed, Status}
use Rattle.span_sender.specs.declared.answer.Answer.{Answer}
use Rattle.span_sender.specs.declared.answer.Fate.TheVariants.{Accepted, Kept, Refused}
use Rattle.span_sender.specs.declared.answer.Fate.{Fate}
use Rattle.span_sender.specs.declared.batches.Action.TheVariants.{Idle, Post, Until}
use Rattle.span_sender.specs.declared.batches.Action.{Action}
use Rattle.span_sender.specs.declared.config.RetryPolicy.{RetryPolicy}

-- a number that stops at the largest of 64 bits
abbrev pub capped : ℕ → ℕ
capped n = min n (2 ^ 64 - 1)

-- a status of success
abbrev pub is_success : ℕ → Bool
is_success code = nat_le 200 code && nat_le code 299

-- the spans were taken, but those that were rejected: a status of success came
abbrev pub is_accepted : Answer → Bool
is_accepted (Status code after rejected) = is_success code
is_accepted Failed = false

-- how many spans were rejected
abbrev pub rejected_by : Answer → ℕ
rejected_by (Status code after rejected) = rejected
rejected_by Failed = 0

-- OTLP has the request posted again: after these statuses, and where the connection failed
abbrev pub is_retried : Answer → Bool
is_retried (Status code after rejected) =
    code == 429 || (code == 502 || (code == 503 || code == 504))
is_retried Failed = true

-- what becomes of a batch of which so many tries have failed before
abbrev pub fate_of : RetryPolicy → ℕ → Answer → Fate
fate_of policy failed answer =
    if is_accepted answer then Accepted
    else if is_retried answer && nat_lt (failed + 1) policy.max_attempts then Kept
    else Refused

-- how long to wait after a try that failed behind so many others: the first wait, doubled for each
-- of those, up to a most
abbrev pub backoff : RetryPolicy → ℕ → ℕ
backoff policy failed = min (policy.initial_backoff * 2 ^ failed) policy.max_backoff

-- how long to wait after an answer, in nanoseconds: the seconds that it asks for, else the backoff
abbrev pub wait_after : RetryPolicy → ℕ → Answer → ℕ
wait_after policy failed (Status code (Some seconds) rejected) = capped (seconds * 1000000000)
wait_after policy failed answer = backoff policy failed

-- a request is to be posted
abbrev pub is_post : Action → Bool
is_post Post = true
is_post Idle = false
is_post (Until time) = false
