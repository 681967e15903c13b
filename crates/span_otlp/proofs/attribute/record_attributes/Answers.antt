use Rattle.std.proofs.Common.{◌≡◌, ◌∙◌, ◌++◌, ap, flat_map, map, rules}
use Rattle.serde_json.specs.Data.{array}
use Rattle.serde_json.specs.View.{items_of, view}
use Rattle.serde_json.specs.declared.value.Value.{the_lemmas}
use Rattle.span_export.specs.Site.{named_so}
use Rattle.span_otlp.proofs.Own.{known_and_given}
use Rattle.span_otlp.specs.Attribute.{attribute_of}
use Rattle.span_otlp.specs.LogRecord.{record_known}
use Rattle.span_otlp.specs.private.Own.{own_attribute}
use Rattle.span_otlp.proofs.attribute.record_attributes.Goals as goal

pub returns : goal.returns
returns c =
    let site = named_so c.args.name in
    let known = record_known site c.args.lane.0 in
    let all = c.in_ok-write_attributes.ensures
    ∙ ap (λ ds. ds ++ map attribute_of site.given)
    (c.in_ok-write_place.ensures ∙ ap (λ vs. map view vs ++ flat_map (own_attribute site.given) known) c.new-pairs.ensures.items)
    ∙ known_and_given site.given known in
    let whole = ap (λ ds. array (items_of ds)) all in
    search (rules, the_lemmas)
