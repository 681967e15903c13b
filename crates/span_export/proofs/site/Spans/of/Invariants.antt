use Rattle.std.proofs.Common.{◌≡◌, ℕ, take}
use Rattle.span_export.specs.Site.{named_by, named_in}
use Rattle.span_export.proofs.site.Spans.of.Given as goal

-- what the points so far say is noted
abbrev pub invariant-loop-point : goal.invariant-loop-point
invariant-loop-point l = record {
  known : (x : ℕ) → named_by l.spans x ≡ named_in l.table (take l.point-index l.points) x;
  sites : l.spans.sites ≡ l.table.sites;
}
