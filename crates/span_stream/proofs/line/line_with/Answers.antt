use Rattle.std.proofs.Common.{◌≡◌, ◌∙◌, ◌++◌, ℕ, List, ap, map, string_bytes}
use Rattle.std.proofs.lemmas.Str.{IsUtf8-string_bytes}
use Rattle.std.specs.Prelude.{codes}
use Rattle.serde_json.specs.View.{view}
use Rattle.span_core.specs.declared.span.Lane.{Lane}
use Rattle.span_registry.specs.Context.{view_lent}
use Rattle.span_stream.proofs.Lined.{line_made, objects_found}
use Rattle.span_stream.specs.Json.{event_object}
use Rattle.span_fmt.specs.Lane.{names_in}
use Rattle.span_stream.specs.Members.{members_kept}
use Rattle.span_stream.specs.Object.{event_data}
use Rattle.span_stream.proofs.line.line_with.Goals as goal

pub returns : goal.returns
returns g c =
    let registry = g.S.LookupSpan.registry in
    let ctx = c.args.ctx.now in
    let e = c.args.event.now in
    let known = members_kept c.args.members.now in
    let v = view_lent registry ctx in
    let stamp = string_bytes c.args.stamp in
    let names = names_in c.args.names.now in
    let lane = c.lane-lane.result.0 in
    let shown : lane ≡ v.lane = ap (λ (l : Lane). l.0) c.lane-lane.ensures in
    let is : view c.in_ok-object.object ≡ event_object stamp e v known names =
    c.in_ok-object.ensures ∙ ap (λ (n : List ℕ). event_data stamp e lane n (map view c.in_ok-spans.spans.items)) c.name.ensures
    ∙ ap (λ (n : ℕ). event_data stamp e n (names n) (map view c.in_ok-spans.spans.items)) shown
    ∙ ap (event_data stamp e v.lane (names v.lane))
    (c.in_ok-spans.ensures ∙ objects_found registry ctx c.ctx-look.result e c.event_scope.result known c.ctx-look.ensures c.event_scope.ensures) in
    let json = c.in_ok-json.json in
    line_made stamp
    e v known names
    (string_bytes json) _ (view c.in_ok-object.object) c.requires is c.in_ok-json.ensures.reads_back c.in_ok-json.ensures.order c.in_ok-json.ensures.compact
    (IsUtf8-string_bytes json) (c.in_ok-push_str.ensures.bytes ∙ ap (λ t. t ++ codes "\n") c.in_ok-line.ensures)
