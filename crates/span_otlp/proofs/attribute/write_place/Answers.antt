use Rattle.std.proofs.Common.{◌≡◌, ◌∙◌, ◌++◌, ap, codes, map}
use Rattle.serde_json.specs.View.{view}
use Rattle.span_export.specs.Site.{named_so, targeted}
use Rattle.span_otlp.proofs.Batches.{on_done}
use Rattle.span_otlp.proofs.Own.{three_parts}
use Rattle.span_otlp.specs.private.Own.{own_attribute}
use Rattle.span_times.specs.Field.Said.{Whole, Words}
use Rattle.span_otlp.proofs.attribute.write_place.Goals as goal

pub returns : goal.returns
returns c =
    let site = named_so c.args.name in
    let own = own_attribute site.given in
    let old = map view c.args.pairs.now.items in
    let target = own (codes "target", Words (targeted site)) in
    let lane = own (codes "thread.id", Whole c.args.lane.0) in
    let first : map view c.write_text.new.pairs.items ≡ old ++ target =
    c.in_ok-write_text.ensures ∙ ap (λ t. old ++ own (codes "target", Words t)) c.target.ensures in
    on_done c.write_number.result c.write_number.ensures
    (λ second. second ∙ ap (λ ds. ds ++ own (codes "thread.id", Whole c.from.result)) first
    ∙ ap (λ n. (old ++ target) ++ own (codes "thread.id", Whole n)) c.from.ensures ∙ three_parts old target lane)
