use Rattle.std.proofs.Common.{◌∙◌, ℕ, ap, sym}
use Rattle.std.specs.Prelude.{nat_lt}
use Rattle.span_core.specs.Span.{number_of}
use Rattle.span_store.specs.private.Index.{counted, times}
use Rattle.span_store.proofs.Times.{apart_times, stands_is}
use Rattle.span_store.proofs.index.Table.has.Goals as goal

pub returns-in-Some : goal.returns-in-Some
returns-in-Some c = λ xs h.
    let count = ap counted c.in-Some.ensures.value ∙ h c.into_u64.result ∙ ap (λ (z : ℕ). times z xs) c.into_u64.ensures in
    ap (nat_lt 0) count ∙ sym (stands_is (number_of c.args.id) xs)

pub returns-in-None : goal.returns-in-None
returns-in-None c = λ xs h.
    let count = ap counted c.in-None.ensures.value ∙ h c.into_u64.result ∙ ap (λ (z : ℕ). times z xs) c.into_u64.ensures in
    sym (apart_times (number_of c.args.id) xs (sym count))
