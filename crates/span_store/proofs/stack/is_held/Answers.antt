use Rattle.std.proofs.Common.{◌∙◌, ap}
use Rattle.span_core.specs.Span.{number_of}
use Rattle.span_store.specs.LaneStack.{stands}
use Rattle.span_store.proofs.Distinct.{stands_distinct}
use Rattle.span_store.proofs.stack.is_held.Goals as goal

pub returns-in-None-clause-held : goal.returns-in-None-clause-held
returns-in-None-clause-held c =
    let x = number_of c.args.id in
    c.is_among.ensures ∙ ap (stands x) c.requires ∙ stands_distinct x c.args.entries.now.spans
