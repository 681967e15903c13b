use Rattle.std.proofs.Common.{◌≡◌, ◌∙◌, not, rules, tests}
use Rattle.std.proofs.lemmas.Iterator.{YieldsList-from_slice}
use Rattle.std.proofs.lemmas.Iterator.Search.{any_from_yields_List}
use Rattle.std.specs.List.{list_any}
use Rattle.std.specs.Prelude.{◌&&◌}
use Rattle.span_core.specs.Field.{is_absent}
use Rattle.span_format.proofs.Present.{message_among}
use Rattle.span_format.specs.Field.{is_message}
use Rattle.span_format.proofs.field.has_message.Goals as goal

pub returns : goal.returns
returns c =
    let values = c.args.values.now in
    let found : c.any.result ≡ list_any (λ f. not (is_absent f.1) && is_message f.0.now) values =
    any_from_yields_List (λ f. not (is_absent f.1) && is_message f.0.now)
    _ _ c.any.result c.any.ensures.ran (YieldsList-from_slice values (search rules)) (λ x b q k. search (rules, tests)) in
    found ∙ message_among values
