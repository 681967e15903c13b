use Rattle.std.proofs.Common.{◌≡◌, ◌∙◌, ◌++◌, Bool, List, [], ap, false, length, sym, true}
use Rattle.span_dispatch.specs.Alone.{passed_at}
use Rattle.span_dispatch.specs.Serve.{flat, stack_of}
use Rattle.span_stacks.specs.Layered.{outer_of}
use Rattle.span_layers.specs.Observe.{observer_of}
use Rattle.span_times.specs.Clock.{latest_counted}
use Rattle.span_times.specs.Field.{FieldSaid}
use Rattle.span_times.specs.Kept.{KeptState}
use Rattle.span_times.specs.Serving.{fields_at, points_at, sites_at, timeline_in, timeline_position}
use Rattle.span_times.specs.Site.{SiteSaid}
use Rattle.span_times.specs.Timeline.{clock_of, fields_of, has_failed, keeps_values, points_of, sites_of}
use Rattle.span_times.specs.declared.clock.Counted.{Counted}
use Rattle.span_times.specs.declared.happening.Point.{Point}
use Rattle.span_times.specs.declared.timeline.Timeline.{Timeline}
use Rattle.span_show.proofs.Answered.{all_found, has_all_room}
use Rattle.span_show.proofs.serve.told_of.Goals as goal

pub returns-clause-told : goal.returns-clause-told
returns-clause-told c =
    let d = c.new-dispatch in
    let put = c.put_on_new.ensures in
    let one = d.ensures.ready put.ready.0 put.ready.1 in
    let w = c.in-Ok.ensures.answered.kept (one.0, one.1) in
    let heard = passed_at timeline_position (flat w.served.made) in
    let times = w.kept.times in
    let timeline = c.into_observer-timeline.ensures ∙ ap observer_of (c.into_parts-layer.ensures.outer ∙ ap outer_of c.into_stack.ensures) in
    let whole : has_failed (timeline_in (stack_of c.serve_timed.new.dispatch)) ≡ false =
    ap has_failed (sym timeline) ∙ sym c.failed.ensures ∙ c.if-failed.false in
    let all = (w.kept.kept whole).1 in
    let first = ap observer_of (d.ensures.registered.0 ∙ put.layer) ∙ c.new-layer.ensures in
    let old = timeline_in (stack_of d.result) in
    let points : points_of old ≡ [] = ap points_of first ∙ ap (λ (k : KeptState). k.points) c.with_values.ensures.kept ∙ c.new-2.ensures.points in
    let sites : sites_of old ≡ [] = ap sites_of first ∙ ap (λ (k : KeptState). k.sites) c.with_values.ensures.kept ∙ c.new-2.ensures.sites in
    let fields : fields_of old ≡ [] = ap fields_of first ∙ ap (λ (k : KeptState). k.fields) c.with_values.ensures.kept ∙ c.new-2.ensures.fields in
    let values : keeps_values old ≡ true = ap keeps_values first ∙ c.with_values.ensures.values in
    record {
      answers = c.in-Ok.answers.items;
      old = d.result;
      new = c.serve_timed.new.dispatch;
      begun = record {
        registry = has_all_room d.ensures.registry put.registry;
        points = points;
        sites = sites;
        fields = fields;
        values = values;
        clock = ap (λ (t : Timeline Counted). latest_counted (clock_of t)) first ∙ ap latest_counted c.with_values.ensures.clock
            ∙ ap latest_counted c.new-2.ensures.clock ∙ c.new.ensures;
      };
      answered =
          record { unasked = d.ensures.kept.callsites; memory = all_found c.deref.ensures.value (c.one_lacks_memory.ensures c.if-one_lacks_memory.false) };
      served = w;
      points = c.take.ensures.points ∙ ap points_of timeline ∙ all.points
          ∙ ap (λ (ps : List Point). ps ++ points_at (keeps_values old) (length (fields_of old)) times heard) points
          ∙ ap (λ (k : Bool). points_at k (length (fields_of old)) times heard) values
          ∙ ap (λ (fs : List FieldSaid). points_at true (length fs) times heard) fields;
      sites = c.take.ensures.sites ∙ ap sites_of timeline ∙ all.sites ∙ ap (λ (ss : List SiteSaid). sites_at ss heard) sites;
      fields = c.take.ensures.fields ∙ ap fields_of timeline ∙ all.fields
          ∙ ap (λ (fs : List FieldSaid). fs ++ fields_at (keeps_values old) heard) fields ∙ ap (λ (k : Bool). fields_at k heard) values;
      above = c.take.ensures.above;
    }
