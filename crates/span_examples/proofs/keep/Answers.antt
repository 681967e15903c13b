use Rattle.span_core.specs.Span.{number_of}
use Rattle.span_registry.proofs.CallerLemmas.{value_written}
use Rattle.span_examples.proofs.keep.Goals as goal

pub returns-in-Ok-clause-kept : goal.returns-in-Ok-clause-kept
returns-in-Ok-clause-kept g c =
    let written = c.tags_keep_their_values.ensures.written c.in-Some.extensions.now c.args.tag c.args.value in
    value_written g.T.ExtensionValue.place
    c.args.registry.now (number_of c.args.id) c.args.tag c.args.value c.in-Some.extensions.now c.replace.new.self c.in-Ok.ensures.replaced written
