use Rattle.std.proofs.Common.{drop}
use Rattle.std.specs.List.{FoldsTo}
use Rattle.span_log.specs.Fields.{pairs_of}
use Rattle.span_log.proofs.fields.FieldsSource.visit.Given as goal

-- a visit of the fields that are left completes a visit of all
abbrev pub invariant-loop-field : goal.invariant-loop-field
invariant-loop-field g l =
    (end : g.row.V.Denot)
    → FoldsTo g.V.VisitSource.visit_pair_gives l.visitor (pairs_of (drop l.field-index l.field-items)) end
    → FoldsTo g.V.VisitSource.visit_pair_gives l.fn.visitor (pairs_of l.field-items) end
