use Rattle.std.proofs.lemmas.Bool.{OnTrue_at}
use Rattle.span_core.specs.Span.{number_of}
use Rattle.span_store.proofs.Distinct.{last_once}
use Rattle.span_store.proofs.stack.place_near.Goals as goal

pub returns-then-is_at : goal.returns-then-is_at
returns-then-is_at c =
    let within = OnTrue_at c.if-is_at.true c.is_at.ensures.within in
    let there = OnTrue_at c.if-is_at.true c.is_at.ensures.there in
    record {
      within = within;
      there = there;
      apart = last_once c.args.spans.now (number_of c.args.id) c.args.near c.args.id within (there c.args.id) c.requires;
    }
