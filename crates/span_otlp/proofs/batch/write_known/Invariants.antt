use Rattle.std.proofs.Common.{◌≡◌, ◌++◌, map, take}
use Rattle.serde_json.specs.View.{view}
use Rattle.span_otlp.specs.Batch.{known_attribute}
use Rattle.span_otlp.proofs.batch.write_known.Given as goal

-- the attributes so far
abbrev pub invariant-loop-item : goal.invariant-loop-item
invariant-loop-item l = map view l.pairs.items ≡ map view l.fn.pairs.items ++ map known_attribute (take l.item-index l.known)
