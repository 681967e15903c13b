use Rattle.std.proofs.Common.{◌≡◌, ◌∙◌, ◌++◌, ap, codes, flat_map, map}
use Rattle.serde_json.specs.View.{view}
use Rattle.span_export.specs.Site.{leveled, named_so}
use Rattle.span_otlp.specs.LogRecord.{record_known}
use Rattle.span_otlp.specs.private.Own.{own_attribute}
use Rattle.span_times.specs.Field.Said.{Words}
use Rattle.span_otlp.proofs.attribute.known.Goals as goal

pub returns : goal.returns
returns c =
    let site = named_so c.args.name in
    let own = own_attribute site.given in
    let first : map view c.write_text.new.pairs.items ≡ own (codes "level", Words (leveled site)) =
    c.in_ok-write_text.ensures ∙ ap (λ vs. map view vs ++ own (codes "level", Words c.level.result.now)) c.new-pairs.ensures.items
    ∙ ap (λ t. own (codes "level", Words t)) c.level.ensures in
    c.in_ok-write_place.ensures ∙ ap (λ ds. ds ++ flat_map own (record_known site c.args.lane.0)) first
