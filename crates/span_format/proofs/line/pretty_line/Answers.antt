use Rattle.std.proofs.Common.{◌∙◌, ◌++◌, List, ℕ, ap}
use Rattle.span_core.specs.Metadata.{level_of}
use Rattle.span_core.specs.declared.span.Lane.{Lane}
use Rattle.span_format.proofs.Around.{parts_outwards}
use Rattle.span_format.proofs.Written.{IsOf, pretty_written}
use Rattle.span_format.specs.Kept.{kept_in}
use Rattle.span_format.specs.Look.{level_column, looks}
use Rattle.span_format.specs.Line.{place_part}
use Rattle.span_format.specs.Part.{reference_part}
use Rattle.span_format.specs.declared.part.Part.{Part}
use Rattle.span_fmt.specs.Tree.{given}
use Rattle.std.specs.Prelude.{flat_map}
use Rattle.span_registry.specs.Context.{view_lent}
use Rattle.span_format.proofs.line.pretty_line.Goals as goal

pub returns : goal.returns
returns g c =
    let registry = g.S.LookupSpan.registry in
    let ctx = c.args.ctx.now in
    let e = c.args.event.now in
    let kept = kept_in c.args.kept.now in
    let look = looks c.args.look.now in
    let of : IsOf e (view_lent registry ctx) c.lane.result.0 c.level.result c.metadata-metadata.result c.values.result.now = record {
      lane_is = ap (λ (l : Lane). l.0) c.lane.ensures;
      level_is = c.level.ensures ∙ ap level_of c.metadata-metadata.ensures;
      metadata_is = c.metadata-metadata.ensures;
      values_are = c.values.ensures;
    } in
    pretty_written look e (view_lent registry ctx) kept c.lane.result.0 c.level.result c.metadata-metadata.result c.values.result.now of
    _ _ _ _ _ _ _
    (c.in_ok-write_level.ensures ∙ ap (λ (t : List ℕ). t ++ level_column look c.level.result) c.in_ok-line.ensures.bytes)
    c.in_ok-write_words.ensures c.in_ok-push_str.ensures.bytes c.in_ok-write_at.ensures c.in_ok-write_outwards.ensures c.in_ok-push_str-2.ensures.bytes
    (ap (λ (p : Part). flat_map (reference_part p kept) (given registry c.event_scope.result)) c.place_part.ensures
    ∙ parts_outwards registry ctx c.ctx-seen.result e c.event_scope.result (place_part look) kept c.ctx-seen.ensures c.event_scope.ensures)
