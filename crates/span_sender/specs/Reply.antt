-- What an answer by HTTP/1.1 says.
use Rattle.std.specs.Prelude.{◌≡◌, ℕ, ◌^◌, ◌<◌, ◌≤◌, ◌==◌, ◌&&◌, ◌||◌, ◌⊎◌, nat_le, nat_lt, Bool, false, not, if◌then◌else◌, IsTrue, List, [], ◌++◌, length, map, take, find, codes, Option, None, Some, is_some, option_and_then, option_map, string_bytes}
use Rattle.std.specs.Char.{is_ascii_digit}
use Rattle.std.specs.Io.KnownBytes.{Consumes}
use Rattle.std.specs.List.{list_all}
use Rattle.std.specs.Str.{is_utf8, str_eq_ignore_ascii_case}
use Rattle.std.specs.Str.Parse.{digits_value}
use Rattle.httparse.specs.Grammar.{HasNoResponse, ReadsResponse, ResponseHead, status_code}
use Rattle.httparse.specs.Spans.{ResponseOverflows, name_and_value}
use Rattle.serde_json.specs.Data.{Data, Num}
use Rattle.serde_json.specs.Find.{as_number, as_str, as_u64, get}
use Rattle.serde_json.specs.Read.{read}
use Rattle.span_sender.specs.Answer.{is_success}
use Rattle.span_sender.specs.declared.answer.Answer.TheVariants.{Status}
use Rattle.span_sender.specs.declared.answer.Answer.{Answer}
use Rattle.span_sender.specs.declared.reply.Reply.{Reply}

-- the number that digits write: nothing but digits, and it fits 64 bits
abbrev pub number_in : List ℕ → Option ℕ
number_in digits =
    if nat_lt 0 (length digits)
    && (list_all is_ascii_digit digits && nat_lt (digits_value 10 digits) (2 ^ 64))
    then Some (digits_value 10 digits)
    else None

-- a field has this name, in capitals or not
abbrev pub is_named : List ℕ → List ℕ × List ℕ → Bool
is_named name field = str_eq_ignore_ascii_case field.0 name

-- the value of the first field with this name
abbrev pub value_named : List ℕ → List (List ℕ × List ℕ) → Option (List ℕ)
value_named name fields = option_map (λ field. field.1) (find (is_named name) fields)

-- the number that is the value of the first field with this name
abbrev pub number_named : List ℕ → ResponseHead → Option ℕ
number_named name head =
    option_and_then number_in (value_named name (map name_and_value head.fields))

-- the seconds after which to come again
abbrev pub retry_after : ResponseHead → Option ℕ
retry_after head = number_named (codes "retry-after") head

-- how many bytes the body has, where the head says so: else it ends with the connection
abbrev pub body_length : ResponseHead → Option ℕ
body_length head = number_named (codes "content-length") head

-- the body has a transfer coding, as chunks: then it is not read
abbrev pub has_chunks : ResponseHead → Bool
has_chunks head =
    is_some (value_named (codes "transfer-encoding") (map name_and_value head.fields))

-- no body is read: a status of 204 has none, and one with a transfer coding is not read
abbrev pub skips_body : ResponseHead → Bool
skips_body head = status_code head == 204 || has_chunks head

-- the first so many bytes; all, where no number is given
abbrev pub up_to : Option ℕ → List ℕ → List ℕ
up_to (Some n) bytes = take n bytes
up_to None bytes = bytes

-- the body, as far as it came behind the head
abbrev pub answer_body : ResponseHead → List ℕ → List ℕ
answer_body head rest = if skips_body head then [] else up_to (body_length head) rest

-- a number is given, and so many are no fewer
abbrev pub reaches : Option ℕ → ℕ → Bool
reaches (Some n) came = nat_le n came
reaches None came = false

-- of an answer with so many bytes behind its head no more counts: the body is whole, or none is
-- read, or the answer is no success
abbrev pub is_whole : ResponseHead → ℕ → Bool
is_whole head came =
    not (is_success (status_code head)) || (skips_body head || reaches (body_length head) came)

-- the value that a body is, if it is a text in JSON
abbrev pub json_in : List ℕ → Option Data
json_in body = if is_utf8 body then read body else None

-- what a value says of spans that were rejected
abbrev pub partial_in : Option Data → Option Data
partial_in value = option_and_then (λ v. get (codes "partialSuccess") v) value

-- a number that is said as a text of digits or as a number
abbrev pub number_said : Option (List ℕ) → Option Num → Option ℕ
number_said (Some digits) number = number_in digits
number_said None number = option_and_then as_u64 number

-- the number, if it fits OTLP's int64; else 0
abbrev pub fitting : Option ℕ → ℕ
fitting (Some n) = if nat_lt n (2 ^ 63) then n else 0
fitting None = 0

-- how many spans were rejected: 0 where no such number is said
abbrev pub rejected_in : Option Data → ℕ
rejected_in partial =
    let spans = option_and_then (λ v. get (codes "rejectedSpans") v) partial in
    fitting (number_said (option_and_then as_str spans) (option_and_then as_number spans))

-- why spans were rejected, or a warning
abbrev pub message_in : Option Data → Option (List ℕ)
message_in partial =
    option_and_then as_str (option_and_then (λ v. get (codes "errorMessage") v) partial)

-- what the body says of spans that were rejected
abbrev pub partial_of : ResponseHead → List ℕ → Option Data
partial_of head rest = partial_in (json_in (answer_body head rest))

-- bytes begin with a head that says this, and with as much of its body as came
pub record IsReply (bytes : List ℕ) (reply : Reply) : Type 0 where
  pub head : ResponseHead
  pub rest : List ℕ
  pub reads : ReadsResponse bytes head rest
  pub answer : reply.answer
      ≡ Status (status_code head) (retry_after head) (rejected_in (partial_of head rest))
  pub message : option_map string_bytes reply.message ≡ message_in (partial_of head rest)

-- without the memory to read its body an answer counts by its head, as one that rejects none
pub record IsByHead (bytes : List ℕ) (answer : Answer) : Type 0 where
  pub head : ResponseHead
  pub rest : List ℕ
  pub reads : ReadsResponse bytes head rest
  pub says : answer ≡ Status (status_code head) (retry_after head) 0

-- no head with at most 64 fields is there
abbrev pub HasNoReply : List ℕ → Type 0
HasNoReply bytes =
    (head : ResponseHead) (rest : List ℕ) → ReadsResponse bytes head rest → 64 < length head.fields

-- no more is read: this is enough of an answer, none can come of it, or it has all the bytes that
-- are read of one, which are fewer where its head is unfinished
abbrev pub IsDone : List ℕ → Type 0
IsDone bytes =
    ((head : ResponseHead) × (rest : List ℕ) × ReadsResponse bytes head rest
    × IsTrue (is_whole head (length rest)))
    ⊎ (ResponseOverflows 64 bytes
    ⊎ ((HasNoResponse bytes × (16384 ≤ length bytes)) ⊎ (65536 ≤ length bytes)))

-- what was read of known bytes stands behind those that were there
abbrev pub ReadsBehind : Option (List ℕ) → Option (List ℕ) → List ℕ → List ℕ → Type 0
ReadsBehind old new before after =
    (more : List ℕ) × Consumes old new more × (after ≡ before ++ more)
