use Rattle.std.proofs.Common.{Some, sym, ap, ◌∙◌}
use Rattle.span_core.specs.Span.{number_of}
use Rattle.span_registry.proofs.Finds.{metadata_found}
use Rattle.span_registry.proofs.context.Context.metadata.Goals as goal

pub returns-in-Some : goal.returns-in-Some
returns-in-Some g c =
    ap Some c.metadata.ensures ∙ sym (metadata_found g.S.LookupSpan.registry c.args.self.now (number_of c.args.id) c.in-Some.found c.in-Some.ensures)
