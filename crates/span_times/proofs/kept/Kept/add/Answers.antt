use Rattle.std.proofs.Common.{◌∙◌, ap, rules}
use Rattle.span_times.proofs.Batches.{taken_back}
use Rattle.span_times.proofs.KeptFields.{cut_back}
use Rattle.span_times.specs.Field.{given_by, kept_in}
use Rattle.span_times.specs.Kept.{KeptState}
use Rattle.span_times.proofs.kept.Kept.add.Goals as goal

pub returns-in-Err-clause-unchanged : goal.returns-in-Err-clause-unchanged
returns-in-Err-clause-unchanged c = record {
  points = search rules;
  sites = search rules;
  fields = ap kept_in c.truncate.ensures.items
      ∙ cut_back c.keep_given.new.fields.items c.self.inside.fields.items (given_by c.args.kept c.args.values.now) c.len-from.result
      (c.len-from.ensures ∙ c.self.inside.fields.ok.0) c.in_ok-keep_given.ensures.kept ∙ ap (λ (s : KeptState). s.fields) c.self.view_is;
}

pub returns-in-Err-keep-clause-unchanged : goal.returns-in-Err-keep-clause-unchanged
returns-in-Err-keep-clause-unchanged c = record {
  points = c.pop.ensures.rest
      ∙ taken_back c.self.inside.points.items c.push.new.self.items _ _ c.in_default.ensures.items (c.push.new.self.ok.0)
      ∙ ap (λ (s : KeptState). s.points) c.self.view_is;
  sites = search rules;
  fields = ap kept_in c.truncate-in-Err-keep.ensures.items
      ∙ cut_back c.keep_given.new.fields.items c.self.inside.fields.items (given_by c.args.kept c.args.values.now) c.len-from.result
      (c.len-from.ensures ∙ c.self.inside.fields.ok.0) c.in_ok-keep_given.ensures.kept ∙ ap (λ (s : KeptState). s.fields) c.self.view_is;
}
