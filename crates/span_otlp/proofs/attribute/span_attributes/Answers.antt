use Rattle.std.proofs.Common.{◌≡◌, ◌∙◌, ◌++◌, ap, codes, flat_map, map, rules}
use Rattle.serde_json.specs.Data.{array}
use Rattle.serde_json.specs.View.{items_of, view}
use Rattle.serde_json.specs.declared.value.Value.{the_lemmas}
use Rattle.span_otlp.proofs.Own.{known_and_given, two_more}
use Rattle.span_otlp.specs.Attribute.{attribute_of}
use Rattle.span_otlp.specs.Otlp.{event_known, span_known}
use Rattle.span_export.specs.Site.{named_so}
use Rattle.span_otlp.specs.private.Own.{own_attribute}
use Rattle.span_times.specs.Field.Said.{Whole}
use Rattle.span_otlp.proofs.attribute.span_attributes.Goals as goal

pub returns : goal.returns
returns c =
    let site = named_so c.args.name in
    let own = own_attribute site.given in
    let event = event_known site c.args.lane.0 in
    let busy = own (codes "busy_ns", Whole c.args.busy) in
    let idle = own (codes "idle_ns", Whole c.args.idle) in
    let first : map view c.write_number.new.pairs.items ≡ flat_map own event ++ busy =
    c.in_ok-write_number.ensures ∙ ap (λ ds. ds ++ busy) c.in_ok-pairs.ensures in
    let second : map view c.write_number-2.new.pairs.items ≡ (flat_map own event ++ busy) ++ idle =
    c.in_ok-write_number-2.ensures ∙ ap (λ ds. ds ++ idle) first in
    let all =
    c.in_ok-write_attributes.ensures ∙ ap (λ ds. ds ++ map attribute_of site.given)
    (second ∙ two_more site.given event (codes "busy_ns", Whole c.args.busy) (codes "idle_ns", Whole c.args.idle))
    ∙ known_and_given site.given (span_known site c.args.lane.0 c.args.busy c.args.idle) in
    let whole = ap (λ ds. array (items_of ds)) all in
    search (rules, the_lemmas)
