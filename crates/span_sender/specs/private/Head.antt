-- What the head of an answer says, for clauses of the crate's own.
use Rattle.std.specs.Prelude.{◌≡◌, ℕ, ◌≤◌, List, drop, length}
use Rattle.httparse.specs.Grammar.{HasNoResponse, ReadsResponse, ResponseHead, status_code}
use Rattle.httparse.specs.Spans.{ResponseOverflows}
use Rattle.span_sender.specs.Reply.{body_length, has_chunks, retry_after}
use Rattle.span_sender.specs.declared.head.Head.{Head}
use Rattle.span_sender.specs.declared.head.Heard.TheVariants.{Came, Unfinished, Wrong}
use Rattle.span_sender.specs.declared.head.Heard.{Heard}

-- bytes begin with this head, which says this
pub record IsHead (bytes : List ℕ) (said : Head) (head : ResponseHead) : Type 0 where
  pub reads : ReadsResponse bytes head (drop said.len bytes)
  pub within : said.len ≤ length bytes
  pub code : said.code ≡ status_code head
  pub after : said.retry_after ≡ retry_after head
  pub chunks : said.has_chunks ≡ has_chunks head
  pub body : said.body_length ≡ body_length head

-- bytes begin with a head, or do not yet, or never will
abbrev pub Hears : List ℕ → Heard → Type 0
Hears bytes (Came said) = (head : ResponseHead) × IsHead bytes said head
Hears bytes Unfinished = HasNoResponse bytes
Hears bytes Wrong = ResponseOverflows 64 bytes
