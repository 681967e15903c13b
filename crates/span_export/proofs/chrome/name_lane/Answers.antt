use Rattle.std.proofs.Common.{◌≡◌, ◌∙◌, ◌++◌, [], ◌∷◌, false, ap, arith, map, sym}
use Rattle.std.specs.BTreeSet.{contains}
use Rattle.std.specs.Ordering.{nat_cmp}
use Rattle.std.proofs.lemmas.List.{map-append}
use Rattle.serde_json.specs.View.{view}
use Rattle.span_export.specs.Chrome.{naming}
use Rattle.span_export.proofs.chrome.name_lane.Goals as goal

pub returns-in_ok-push-clause-events : goal.returns-in_ok-push-clause-events
returns-in_ok-push-clause-events c =
    let known = contains nat_cmp c.args.known.now c.args.lane.0 in
    let unknown : known ≡ false = grind (arith, c.in_ok-insert.ensures.added, c.if-branch.true) in
    ap (map view) c.in_ok-push.ensures.items ∙ map-append view c.args.events.now.items (c.in_ok-lane_named.field-0 ∷ [])
    ∙ ap (λ d. map view c.args.events.now.items ++ d ∷ []) c.in_ok-lane_named.ensures
    ∙ ap (λ b. map view c.args.events.now.items ++ naming b c.args.lane.0) (sym unknown)
