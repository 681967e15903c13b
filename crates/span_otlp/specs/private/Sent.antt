-- What has been sent of spans or log records, and what waits.
use Rattle.std.specs.Prelude.{◌≡◌, ◌<◌, ◌≤◌, ◌+◌, ◌*◌, ℕ, List, [], ◌∷◌, ◌++◌, Option, None, Some, String, ⊤, flat_map, length, map, max, string_bytes}
use Rattle.std.specs.List.{AllByRecursion}
use Rattle.std.specs.declared.alloc.Global.{Global}
use Rattle.serde_json.specs.Data.{Data, depth}
use Rattle.serde_json.specs.Read.{max_depth}
use Rattle.serde_json.specs.View.{view}
use Rattle.span_otlp.specs.Batch.{AreBatches, request_value}
use Rattle.span_export.specs.Json.{AllMean, AreCompact, Means, reprinted}
use Rattle.span_otlp.specs.declared.batch.Batches.{Batches}
use Rattle.span_otlp.specs.declared.batch.Plan.{Plan}

-- nothing is deeper, if there is something
abbrev pub IsWithin : ℕ → Option Data → Type 0
IsWithin n None = ⊤
IsWithin n (Some d) = depth d ≤ n

-- the request for what waits
abbrev pub request_so_far : Plan → Batches → Data
request_so_far plan b = request_value plan.signal plan.trace.now (map view b.waiting.items)

-- a request with what waited is a line more, and nothing waits
pub record HasSent (plan : Plan) (old new : Batches) : Type 0 where
  pub line : String Global
  pub more : new.lines.items ≡ old.lines.items ++ line ∷ []
  pub means : depth (request_so_far plan old) ≤ max_depth
      → Means (string_bytes line) (request_so_far plan old)
  pub compact : reprinted (string_bytes line) ≡ string_bytes line
  pub none : new.waiting.items ≡ []

-- these are in full requests, but for the last ones, which wait
pub record AreSent (plan : Plan) (all : List Data) (b : Batches) : Type 0 where
  pub batches : List (List Data)
  pub mean : AllMean (map string_bytes b.lines.items)
      (map (request_value plan.signal plan.trace.now) batches)
  pub compact : AreCompact (map string_bytes b.lines.items)
  pub whole : flat_map (λ b. b) batches ++ map view b.waiting.items ≡ all
  pub full : AllByRecursion (λ b. length b ≡ max 1 plan.most) batches
  pub count : length batches * max 1 plan.most + length b.waiting.items ≡ length all
  pub few : length b.waiting.items ≤ max 1 plan.most
  pub flat : AllByRecursion (λ d. depth d ≤ 6) (map view b.waiting.items)

-- these are sent so, and one more may wait
pub record HaveRoom (plan : Plan) (all : List Data) (b : Batches) : Type 0 where
  pub sent : AreSent plan all b
  pub room : length b.waiting.items < max 1 plan.most

-- these are in requests, each a line
pub record AreAllSent (plan : Plan) (all : List Data) (lines : List (List ℕ)) : Type 0 where
  pub batches : AreBatches plan.signal plan.trace.now plan.most all lines
  pub compact : AreCompact lines
