use Rattle.std.proofs.Common.{◌∙◌, ◌++◌, ap, arith, map}
use Rattle.std.proofs.lemmas.List.{take_all}
use Rattle.serde_json.specs.View.{view}
use Rattle.span_otlp.specs.Batch.{known_attribute}
use Rattle.span_otlp.proofs.batch.write_known.Goals as goal

pub returns : goal.returns
returns c =
    c.loop-item.invariant
    ∙ ap (λ ps. map view c.args.pairs.now.items ++ map known_attribute ps) (take_all c.loop-item.item-index c.args.known.now (omega arith))
