use Rattle.std.proofs.Common.{◌≡◌, ◌∙◌, ℕ, List, ap, unwrap_or}
use Rattle.std.proofs.lemmas.Map.Entries.{entries_from_clone, lookup_clone}
use Rattle.std.specs.BTreeMap.{is_at}
use Rattle.std.specs.Map.{lookup}
use Rattle.std.specs.Ordering.{nat_cmp}
use Rattle.span_timing.proofs.Rows.{copied_row}
use Rattle.span_timing.specs.Row.{IsSameRow}
use Rattle.span_timing.specs.Timing.{of_callsite}
use Rattle.span_timing.proofs.timing.Timing.copied.Goals as goal

pub returns : goal.returns
returns c = λ lives sent was.
    let old = c.args.self.now in
    let Same : ℕ → ℕ → Type 0 = λ x y. y ≡ x in
    record {
      rows = λ n. copied_row (of_callsite n lives) (lookup (is_at (nat_cmp n)) old.rows.entries) (lookup (is_at (nat_cmp n)) c.in_ok-rows.rows.entries)
          (lookup_clone Same
          IsSameRow (is_at (nat_cmp n)) (λ x y same. ap (is_at (nat_cmp n)) same) old.rows.entries c.in_ok-rows.rows.entries c.in_ok-rows.ensures.cases)
          (was.rows n);
      events = λ fits n.
          let same = entries_from_clone Same Same (λ x y e. e) (λ x y e. e) old.events.entries c.in_ok-events.events.entries c.in_ok-events.ensures.cases in
          ap (λ (es : List (ℕ × ℕ)). unwrap_or (lookup (is_at (nat_cmp n)) es) 0) same ∙ was.events fits n;
    }
