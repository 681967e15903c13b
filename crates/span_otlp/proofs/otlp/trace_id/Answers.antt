use Rattle.std.proofs.Common.{◌∙◌, ap, rules}
use Rattle.std.specs.Int.{to_be_bytes, w128}
use Rattle.hex.specs.Hex.{encode_lower}
use Rattle.serde_json.specs.Data.{string}
use Rattle.serde_json.specs.declared.value.Value.{the_lemmas}
use Rattle.span_otlp.proofs.otlp.trace_id.Goals as goal

pub returns : goal.returns
returns g c =
    let number = c.trace_id-number.ensures ∙ ap (g.I.TraceIds.trace_of c.args.traces.now.ids.now) c.root.ensures in
    let text = ap string (c.in_ok-encode.ensures ∙ ap encode_lower (c.to_be_bytes.ensures ∙ ap (to_be_bytes w128) number)) in
    search (rules, the_lemmas)
