use Rattle.std.proofs.Common.{◌≡◌, ◌+◌, append_assoc, sym}
use Rattle.std.proofs.lemmas.Result.{IfOk-weaker}
use Rattle.span_export.proofs.picture.name_in.Goals as goal
use Rattle.span_times.specs.Measure.{capped}

pub returns : goal.returns
returns c =
    let x : c.saturating_add-x.result ≡ capped (c.args.area.x + 5) = c.saturating_add-x.ensures in
    let y : c.saturating_add-y.result ≡ capped (c.args.area.y + 14) = c.saturating_add-y.ensures in
    IfOk-weaker c.format.result _ _ (λ s h. simp append_assoc (rw (sym x, sym y) h)) c.format.ensures.ok
