-- What a body says of spans, for clauses of the crate's own.
use Rattle.std.specs.Prelude.{◌≡◌, Option, option_map, string_bytes}
use Rattle.serde_json.specs.Data.{Data}
use Rattle.span_sender.specs.Reply.{message_in, rejected_in}
use Rattle.span_sender.specs.declared.partial.Partial.{Partial}

-- what a value says of spans that were rejected, if there is one
pub record Says (partial : Option Data) (said : Partial) : Type 0 where
  pub rejected : said.rejected ≡ rejected_in partial
  pub message : option_map string_bytes said.message ≡ message_in partial
