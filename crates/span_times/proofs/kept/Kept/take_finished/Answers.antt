use Rattle.std.proofs.Common.{◌∙◌, ap, false, rules, true}
use Rattle.span_times.proofs.Batches.{read_copies}
use Rattle.span_times.specs.Finished.{is_closed_in, openings_in, picked, points_said}
use Rattle.span_times.specs.Kept.{KeptState}
use Rattle.span_times.proofs.kept.Kept.take_finished.Goals as goal

pub returns-clause-taken : goal.returns-clause-taken
returns-clause-taken c =
    let ps = c.self.inside.points.items in
    let fs = c.self.inside.fields.items in
    let seen = c.deref.ensures.value in
    record {
      over = read_copies true c.in_ok-closed.closed ps _ _ _ fs _ _ seen c.deref-2.ensures.value c.deref-3.ensures.value
          c.in_ok-closed.ensures c.in_ok-over.ensures.points c.in_ok-over.ensures.fields
          ∙ ap (λ (s : KeptState). picked true (is_closed_in s.points) (points_said s.fields s.points)) c.self.view_is;
      rest = read_copies false c.in_ok-closed.closed ps _ _ _ fs _ _ seen c.deref-4.ensures.value c.deref-5.ensures.value
          c.in_ok-closed.ensures c.in_ok-left.ensures.points c.in_ok-left.ensures.fields
          ∙ ap (λ (s : KeptState). picked false (is_closed_in s.points) (points_said s.fields s.points)) c.self.view_is;
      above = c.in_ok-above.ensures ∙ ap openings_in c.deref-6.ensures.value;
      named = search rules;
      sites = search rules;
    }
