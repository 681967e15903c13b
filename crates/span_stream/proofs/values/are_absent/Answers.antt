use Rattle.std.proofs.Common.{◌≡◌, rules, tests}
use Rattle.std.proofs.lemmas.Iterator.{YieldsList-from_slice}
use Rattle.std.proofs.lemmas.Iterator.Search.{all_from_yields_List}
use Rattle.std.specs.List.{list_all}
use Rattle.span_core.specs.Field.{is_absent}
use Rattle.span_stream.proofs.Present.{absent_told}
use Rattle.span_stream.proofs.values.are_absent.Goals as goal

pub returns : goal.returns
returns c =
    let values = c.args.values.now in
    let found : c.all.result ≡ list_all (λ f. is_absent f.1) values =
    all_from_yields_List (λ f. is_absent f.1)
    _ _ c.all.result c.all.ensures.ran (YieldsList-from_slice values (search rules)) (λ x b q k. search (rules, tests)) in
    rw found (absent_told values)
