use Rattle.std.proofs.Common.{rules}
use Rattle.span_export.proofs.Depth.{trace_depth}
use Rattle.span_export.proofs.chrome.chrome_text.Goals as goal

pub returns : goal.returns
returns c =
    let depth = trace_depth c.args.table c.args.points.now in
    search rules
