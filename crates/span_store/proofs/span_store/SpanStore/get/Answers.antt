use Rattle.std.proofs.Common.{sym, ap, ◌∙◌}
use Rattle.std.specs.Option.{option_and_then}
use Rattle.slab.specs.Slab.{get as under}
use Rattle.span_core.specs.Span.{number_of}
use Rattle.span_store.proofs.Stored.{seen_record}
use Rattle.span_store.proofs.span_store.SpanStore.get.Goals as goal

pub returns-in-Some : goal.returns-in-Some
returns-in-Some c = c.get.ensures ∙ ap (option_and_then (under c.self.inside.records)) (sym c.in-Some.is ∙ c.key_of.ensures)
    ∙ seen_record c.self.inside c.args.self.now (number_of c.args.id) c.self.view_is

pub returns-in-None : goal.returns-in-None
returns-in-None c = ap (option_and_then (under c.self.inside.records)) (sym c.in-None.is ∙ c.key_of.ensures)
    ∙ seen_record c.self.inside c.args.self.now (number_of c.args.id) c.self.view_is
