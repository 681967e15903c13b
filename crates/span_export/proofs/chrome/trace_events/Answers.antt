use Rattle.std.proofs.Common.{None, ◌≡◌, ◌∙◌, ◌++◌, ◌<◌, ◌-◌, ◌||◌, ℕ, arith, ap, get_or, length, map, sym}
use Rattle.std.specs.BTreeSet.{contains}
use Rattle.std.specs.Ordering.{nat_cmp}
use Rattle.std.specs.Prelude.{◌==◌}
use Rattle.serde_json.specs.View.{view}
use Rattle.span_export.proofs.Summing.{entries_more}
use Rattle.span_export.proofs.Traced.{known_more, one_more_point}
use Rattle.span_export.specs.Chrome.{events_at, events_since}
use Rattle.span_export.specs.Entry.{entries_after}
use Rattle.span_export.specs.Site.{Named, named_by, named_in}
use Rattle.span_export.proofs.chrome.trace_events.Goals as goal
use Rattle.span_times.specs.declared.happening.Happening.TheVariants.{Opened}
use Rattle.span_times.specs.declared.happening.Point.{Point}

pub loop-point-preserved : goal.loop-point-preserved
loop-point-preserved c =
    let ps = c.args.points.now in
    let i = c.loop-point.point-index in
    let within : i < length ps = omega arith in
    let none : Point = record { time = 0; lane = record { 0 = 0 }; what = Opened (record { number = 0 }) 0 None; fields = record { from = 0; to = 0 } } in
    let p = get_or ps i none in
    let same : named_by c.in_ok-spans.spans ≡ named_in c.args.table ps = λ j x. c.in_ok-spans.ensures x j in
    record {
      entries = c.in_ok-go_on.ensures ∙ ap (λ es. entries_after es p p.what) c.loop-point.invariant.entries ∙ sym (entries_more ps i none within);
      known = λ lane.
          c.in_ok-name_lane.ensures.known lane ∙ ap (λ b. b || (p.lane.0 == lane)) (c.loop-point.invariant.known lane) ∙ sym (known_more ps i none lane within);
      events = one_more_point c.args.table (named_in c.args.table ps) c.args.begin ps i none (map view c.loop-point.events.items)
          (map view c.name_lane.new.events.items) (map view c.write_point.new.events.items) (events_since c.args.table c.args.begin ps)
          (contains nat_cmp c.loop-point.known p.lane.0) c.deref.result.now c.saturating_sub.result within
          (c.loop-point.invariant.known p.lane.0) c.in_ok-name_lane.ensures.events
          (c.deref.ensures.value ∙ c.loop-point.invariant.entries)
          c.saturating_sub.ensures
          (c.in_ok-write_point.ensures
          ∙ ap (λ (n : ℕ
          → Named). map view c.name_lane.new.events.items ++ events_at c.args.table n c.deref.result.now c.saturating_sub.result p) same)
          c.loop-point.invariant.events;
    }
