use Rattle.std.proofs.Common.{sym, ap, ◌∙◌}
use Rattle.std.specs.FinMap as map
use Rattle.span_extensions.proofs.NumberMaps.{get-of_entries, inserted}
use Rattle.span_extensions.proofs.table.Table.insert.Goals as goal
use Rattle.span_extensions.proofs.table.Table.insert.Goals.{in-Ok, in-Err}

pub returns-clause-old : goal.returns-clause-old
returns-clause-old g c =
    elim c.match-insert.branch [
      | in-Ok w ↦ rw w.result-is (w.in-Ok.ensures.old ∙ sym (get-of_entries _ _) ∙ ap (λ m. map.get m c.args.number) c.self.view_is)
      | in-Err w ↦ rw w.result-is tt
    ]

pub returns-clause-ok : goal.returns-clause-ok
returns-clause-ok g c =
    elim c.match-insert.branch [
      | in-Ok w ↦ rw w.result-is
          (inserted c.self.inside.entries c.insert.new.self _ _ w.in-Ok.ensures.updates ∙ ap (λ m. map.insert m c.args.number c.args.value) c.self.view_is)
      | in-Err w ↦ rw w.result-is tt
    ]

pub returns-clause-absent : goal.returns-clause-absent
returns-clause-absent g c =
    elim c.match-insert.branch [
      | in-Ok w ↦ rw w.result-is tt
      | in-Err w ↦ rw w.result-is (ap (λ m. map.get m c.args.number) (sym c.self.view_is) ∙ get-of_entries _ _ ∙ w.in-Err.ensures.absent)
    ]
