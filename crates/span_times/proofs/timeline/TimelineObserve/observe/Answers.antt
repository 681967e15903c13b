use Rattle.std.proofs.Common.{◌≡◌, ◌∙◌, ◌∷◌, ◌++◌, [], Option, ap, length, refl, rules}
use Rattle.span_core.specs.declared.metadata.Metadata.{Metadata}
use Rattle.span_core.specs.declared.span.Lane.{Lane}
use Rattle.span_registry.specs.Notice.{notice_of}
use Rattle.span_registry.specs.Context.{filters_lent, lane_lent, subscriber_lent}
use Rattle.span_registry.specs.View.{plain_view}
use Rattle.span_times.proofs.Found.{happening_plainly}
use Rattle.span_times.specs.Field.{given_by, range_of}
use Rattle.span_times.specs.Kept.{point_at}
use Rattle.span_times.specs.Site.{with_site}
use Rattle.span_times.specs.Timeline.{fields_kept, fields_of, happening_of, points_of, sites_of}
use Rattle.span_times.proofs.timeline.TimelineObserve.observe.Goals as goal

pub returns-clause-hook : goal.returns-clause-hook
returns-clause-hook g c =
    let ctx = c.args.ctx.now in
    let x = c.args.self.now in
    let e = notice_of c.args.notice in
    let s = (g.S.LookupSpan.registry (subscriber_lent ctx)).store in
    let v = plain_view s (lane_lent ctx).0 (filters_lent ctx) in
    let law = c.extensions_change_no_look_up.ensures s (lane_lent ctx).0 (filters_lent ctx) in
    let time = c.now-time.result in
    let n = length (fields_of x) in
    let what_found = c.happening_in-what.result in
    let given_found = given_by x.values c.values_in.result.now in
    let what : c.happening_in-what.result ≡ happening_of e v =
    c.happening_in-what.ensures ∙ happening_plainly s (lane_lent ctx).0 (filters_lent ctx) law e in
    let given : given_by x.values c.values_in.result.now ≡ fields_kept x.values e = ap (given_by x.values) c.values_in.ensures in (
      record {
        time = c.now-time.result;
        read = search rules;
        kept = λ good. (
          (c.keep.ensures.kept good).0,
          record {
            points = (c.keep.ensures.kept good).1.points
                ∙ ap (λ (l : Lane). points_of x ++ point_at time l.0 what_found (range_of n (length given_found)) ∷ []) c.lane.ensures
                ∙ ap (λ w. points_of x ++ point_at time (lane_lent ctx).0 w (range_of n (length given_found)) ∷ []) what
                ∙ ap (λ gs. points_of x ++ point_at time (lane_lent ctx).0 (happening_of e v) (range_of n (length gs)) ∷ []) given;
            sites = (c.keep.ensures.kept good).1.sites ∙ ap (λ (m : Option Metadata). with_site m (sites_of x)) c.metadata_in.ensures;
            fields = (c.keep.ensures.kept good).1.fields ∙ ap (λ fs. fields_of x ++ fs) given;
          },
        );
        lost = λ bad. record {
          points = (c.keep.ensures.lost bad).points;
          sites = (c.keep.ensures.lost bad).sites;
          fields = (c.keep.ensures.lost bad).fields;
        };
        full = λ good bad none. c.keep.ensures.full good bad (record {
          sites = ap (λ (m : Option Metadata). with_site m (sites_of x)) c.metadata_in.ensures ∙ none.sites;
          fields = given ∙ none.fields;
        });
        values = c.keep.ensures.values;
      },
      refl,
    )
