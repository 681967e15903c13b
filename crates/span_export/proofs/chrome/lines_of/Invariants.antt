use Rattle.std.proofs.Common.{◌≡◌, Some, map, string_bytes, take}
use Rattle.serde_json.specs.Read.{read}
use Rattle.serde_json.specs.View.{view}
use Rattle.span_export.specs.Json.{reprinted}
use Rattle.span_export.proofs.chrome.lines_of.Given as goal

-- the lines so far mean the values so far, and are compact
abbrev pub invariant-loop-value : goal.invariant-loop-value
invariant-loop-value l = (map read (map string_bytes l.lines.items) ≡ map Some (map view (take l.value-index l.values)))
    × (map reprinted (map string_bytes l.lines.items) ≡ map string_bytes l.lines.items)
