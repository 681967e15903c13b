use Rattle.std.proofs.Common.{◌∙◌, sym, arith}
use Rattle.span_core.specs.Span.{number_of}
use Rattle.span_store.proofs.Times.{times_apart}
use Rattle.span_store.proofs.index.Table.next_posting.Goals as goal

pub returns-then-not-duplicate : goal.returns-then-not-duplicate
returns-then-not-duplicate c = λ xs mark h.
    let none = times_apart (number_of c.args.id) xs (sym mark ∙ c.if-not-duplicate.true) in
    omega arith
