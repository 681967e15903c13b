-- Requests of OpenTelemetry, each with many spans or log records.
use Rattle.std.specs.Prelude.{◌≡◌, ◌<◌, ◌≤◌, ◌+◌, ◌*◌, ℕ, List, [], ◌∷◌, String, codes, flat_map, length, map, max, string_bytes}
use Rattle.std.specs.List.{AllByRecursion}
use Rattle.std.specs.declared.alloc.Global.{Global}
use Rattle.serde_json.specs.Data.{Data, array, string}
use Rattle.serde_json.specs.View.{items_of}
use Rattle.span_otlp.specs.Attribute.{attribute_of}
use Rattle.span_export.specs.Json.{AllMean, object_of}
use Rattle.span_otlp.specs.declared.batch.Signal.TheVariants.{Logs, Spans}
use Rattle.span_otlp.specs.declared.batch.Signal.{Signal}
use Rattle.span_otlp.specs.declared.otlp.Scope.{Scope}
use Rattle.span_otlp.specs.declared.otlp.Trace.{Trace}
use Rattle.span_times.specs.Field.Said.{Words}

-- one thing alone
abbrev pub only : Data → Data
only d = array (items_of (d ∷ []))

-- a key and a text as an attribute
abbrev pub known_attribute : String Global × String Global → Data
known_attribute a = attribute_of (string_bytes a.0, Words (string_bytes a.1))

-- what is known of the service: its name, and the attributes of the trace
abbrev pub resource_attributes : Trace → List Data
resource_attributes trace =
    attribute_of (codes "service.name", Words (string_bytes trace.service))
    ∷ map known_attribute trace.attributes.items

-- the service whose spans or records are exported
abbrev pub resource_value : Trace → Data
resource_value trace =
    object_of ((codes "attributes", array (items_of (resource_attributes trace))) ∷ [])

-- what of the service made the spans or records
abbrev pub scope_value : Scope → Data
scope_value scope =
    object_of ((codes "name", string (string_bytes scope.name))
    ∷ (codes "version", string (string_bytes scope.version)) ∷ [])

-- what is exported, under these names, of the service
abbrev pub request_under : List ℕ → List ℕ → List ℕ → Trace → List Data → Data
request_under resources scopes items trace values =
    let scope = object_of ((codes "scope", scope_value trace.scope)
    ∷ (items, array (items_of values)) ∷ []) in
    object_of ((
      resources,
      only (object_of ((codes "resource", resource_value trace) ∷ (scopes, only scope) ∷ [])),
    ) ∷ [])

-- a request to export spans or log records
abbrev pub request_value : Signal → Trace → List Data → Data
request_value Spans trace values =
    request_under (codes "resourceSpans") (codes "scopeSpans") (codes "spans") trace values
request_value Logs trace values =
    request_under (codes "resourceLogs") (codes "scopeLogs") (codes "logRecords") trace values

-- these in batches: all of them in order, each once; a batch has one at least and so many at most,
-- and there are as few batches as that takes
pub record IsInBatches (most : ℕ) (all : List Data) (batches : List (List Data)) : Type 0 where
  pub whole : flat_map (λ b. b) batches ≡ all
  pub sizes : AllByRecursion (λ b. (0 < length b) × (length b ≤ most)) batches
  pub few : length batches * most < length all + most

-- these lines mean requests to export these, of which each has so many at most; 0 counts as 1
pub record AreBatches (signal : Signal) (trace : Trace) (most : ℕ) (all : List Data)
    (lines : List (List ℕ)) : Type 0 where
  pub batches : List (List Data)
  pub cut : IsInBatches (max 1 most) all batches
  pub mean : AllMean lines (map (request_value signal trace) batches)
