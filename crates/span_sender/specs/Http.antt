-- Requests and answers by HTTP/1.1.
use Rattle.std.specs.Prelude.{ℕ, List, ◌++◌, Option, codes, decimal, option_map, string_bytes}
use Rattle.span_sender.specs.declared.http.HttpPoster.{HttpPoster}

module _ {N : Type 0} where
  -- what makes the connections of a poster
  abbrev pub net_of : HttpPoster N → N
  net_of poster = poster.net

  -- the host that it was made with
  abbrev pub host_of : HttpPoster N → List ℕ
  host_of poster = string_bytes poster.host

  -- what the collector said last of spans that it rejected, or as a warning
  abbrev pub message_of : HttpPoster N → Option (List ℕ)
  message_of poster = option_map string_bytes poster.message

-- the head of a request to a host, with so long a body
abbrev pub request_head : List ℕ → ℕ → List ℕ
request_head host length =
    codes "POST /v1/traces HTTP/1.1\r\nHost: " ++ host
    ++ codes "\r\nContent-Type: application/json\r\nContent-Length: " ++ decimal length
    ++ codes "\r\nConnection: close\r\n\r\n"
