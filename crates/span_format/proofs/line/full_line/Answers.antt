use Rattle.std.proofs.Common.{◌∙◌, ◌++◌, List, ℕ, ap}
use Rattle.span_core.specs.Metadata.{level_of}
use Rattle.span_core.specs.declared.span.Lane.{Lane}
use Rattle.span_format.proofs.Around.{parts_from_root}
use Rattle.span_format.proofs.Written.{IsOf, full_written}
use Rattle.span_format.specs.Kept.{kept_in}
use Rattle.span_format.specs.Look.{begun_text, looks}
use Rattle.span_format.specs.declared.part.Part.TheVariants as part
use Rattle.span_registry.specs.Context.{view_lent}
use Rattle.span_format.proofs.line.full_line.Goals as goal

pub returns : goal.returns
returns g c =
    let registry = g.S.LookupSpan.registry in
    let ctx = c.args.ctx.now in
    let e = c.args.event.now in
    let kept = kept_in c.args.kept.now in
    let look = looks c.args.look.now in
    let of : IsOf e (view_lent registry ctx) c.lane.result.0 c.level.result c.metadata-metadata.result c.values.result.now = record {
      lane_is = ap (λ (l : Lane). l.0) c.lane.ensures;
      level_is = c.level.ensures ∙ ap level_of c.metadata-metadata.ensures;
      metadata_is = c.metadata-metadata.ensures;
      values_are = c.values.ensures;
    } in
    full_written look e (view_lent registry ctx) kept c.lane.result.0 c.level.result c.metadata-metadata.result c.values.result.now of
    _ _ _ _ _ _
    (c.in_ok-begin.ensures ∙ ap (λ (t : List ℕ). t ++ begun_text look c.lane.result.0 c.level.result) c.in_ok-line.ensures.bytes)
    c.in_ok-write_spaced.ensures c.in_ok-write_target.ensures c.in_ok-write_words.ensures c.in_ok-push_str.ensures.bytes
    (parts_from_root registry ctx c.ctx-seen.result e c.event_scope.result (part.Label look.ansi) kept c.ctx-seen.ensures c.event_scope.ensures)
