use Rattle.std.proofs.Common.{◌≡◌, ◌∙◌, ℕ, ap, sym, arith, not, Some, None}
use Rattle.std.proofs.lemmas.Bool.{and_parts, not-true}
use Rattle.span_core.specs.Span.{number_of}
use Rattle.span_store.specs.LaneStack.{leave, stands}
use Rattle.span_store.specs.private.Index.{counted, times}
use Rattle.span_store.proofs.Times.{counts_left, times_apart, times_left_here}
use Rattle.span_store.proofs.index.Table.pop.Goals as goal

pub returns-then-not-duplicate : goal.returns-then-not-duplicate
returns-then-not-duplicate c = λ xs mark h.
    let x = number_of c.args.id in
    let parts = and_parts _ _ (sym mark ∙ ap not c.if-not-duplicate.true) in
    let gone = times_apart x (leave x xs) (not-true (stands x (leave x xs)) parts.1) in
    counts_left c.args.self.now.postings c.remove.new.self c.into_u64-number.result x c.into_u64-number.ensures None xs h c.remove.ensures.updates (sym gone)

pub returns-in-Ok : goal.returns-in-Ok
returns-in-Ok c = λ xs mark h.
    let x = number_of c.args.id in
    let count = ap counted c.in-Some.ensures.value ∙ h c.into_u64-number.result ∙ ap (λ (z : ℕ). times z xs) c.into_u64-number.ensures in
    let left = times_left_here x xs in
    let less : c.saturating_sub.result ≡ times x (leave x xs) = let less = c.saturating_sub.ensures in omega arith in
    counts_left c.args.self.now.postings c.insert.new.self c.into_u64-number.result x c.into_u64-number.ensures
    (Some (record { count = c.saturating_sub.result; serial = c.in-Some.posting.now.serial })) xs h c.in-Ok.ensures.updates less
