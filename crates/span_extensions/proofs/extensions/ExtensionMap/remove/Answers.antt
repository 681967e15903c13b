use Rattle.std.proofs.Common.{◌≡◌, sym, ap, ◌∙◌}
use Rattle.span_extensions.specs.Extensions.{ExtensionMap, tabled, value_under, without_value}
use Rattle.span_extensions.proofs.Tabled.{none_taken, none_under, untabled}
use Rattle.span_extensions.proofs.extensions.ExtensionMap.remove.Goals as goal
use Rattle.span_extensions.proofs.extensions.ExtensionMap.remove.Goals.{in-Some, in-None}

pub returns-clause-value : goal.returns-clause-value
returns-clause-value g c =
    let place = g.T.ExtensionValue.place in
    elim c.match-self.branch [
      | in-Some w ↦
          let seen : w.deref_mut.result.now ≡ c.args.self.now = w.deref_mut.ensures.value ∙ sym (ap tabled w.in-Some.is) ∙ c.self.view_is in
          rw w.result-is (◌∙◌ {b = value_under place w.deref_mut.result.now c.args.tag}
          w.remove.ensures.value (ap (λ (m : ExtensionMap). value_under place m c.args.tag) seen))
      | in-None w ↦ rw w.result-is (sym (none_under place
          g.met.T.ExtensionValue.begins_empty c.args.self.now c.args.tag (untabled c.self.inside.tables c.args.self.now c.self.view_is w.in-None.is)))
    ]

pub returns-clause-after : goal.returns-clause-after
returns-clause-after g c =
    let place = g.T.ExtensionValue.place in
    elim c.match-self.branch [
      | in-Some w ↦
          let seen : w.deref_mut.result.now ≡ c.args.self.now = w.deref_mut.ensures.value ∙ sym (ap tabled w.in-Some.is) ∙ c.self.view_is in
          rw w.self-inside-is (◌∙◌ {b = without_value place w.deref_mut.result.now c.args.tag}
          w.remove.ensures.after (ap (λ (m : ExtensionMap). without_value place m c.args.tag) seen))
      | in-None w ↦
          let none = untabled c.self.inside.tables c.args.self.now c.self.view_is w.in-None.is in
          rw w.self-inside-is
          (c.self.view_is ∙ sym (none_taken place g.met.T.ExtensionValue.begins_empty c.args.self.now c.args.tag none (g.met.T.ExtensionValue.with_own _)))
    ]
