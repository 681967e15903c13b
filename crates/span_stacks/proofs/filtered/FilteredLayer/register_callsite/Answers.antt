use Rattle.std.proofs.Common.{true, false, ap, ◌∙◌}
use Rattle.span_core.specs.Pass.{interest_sum, refused_of}
use Rattle.span_stacks.proofs.FilteredQuestions.{filtered_interest}
use Rattle.span_stacks.proofs.filtered.FilteredLayer.register_callsite.Goals as goal
use Rattle.span_stacks.proofs.filtered.FilteredLayer.register_callsite.Goals.{else-not-is_never, then-not-is_never}

pub returns : goal.returns
returns g c =
    let answered =
    filtered_interest c.args.self.now.id (g.F.Filter.has_answers c.args.self.now.filter) (g.L.Layer.has_form c.args.self.now.layer) c.args.meta.now
    c.callsite_enabled-interest.result c.args.pass.now
    c.if-not-is_never.pass c.add_interest.new.self c.if-is_unattached.ensures c.callsite_enabled-interest.ensures
    c.add_interest.ensures.interest c.add_interest.ensures.refused in
    elim c.if-not-is_never.branch [
      | then-not-is_never w ↦
          answered false w.if-not-is_never.ensures
          (λ filters f h.
          let inner = w.register_callsite.ensures filters f h in (ap interest_sum w.pass-is ∙ inner.sum, ap refused_of w.pass-is ∙ inner.refused))
      | else-not-is_never w ↦ answered true w.if-not-is_never.ensures (λ filters f h. (ap interest_sum w.pass-is, ap refused_of w.pass-is))
    ]
