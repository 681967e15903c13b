use Rattle.std.proofs.Common.{ap, arith, length-append, rules, unwrap_or, [], ◌∷◌, ◌∙◌, ◌≡◌, ◌+◌, ◌-◌, ◌^◌, min}
use Rattle.std.specs.BTreeMap.{insert_entry, is_at}
use Rattle.std.specs.Map.{lookup}
use Rattle.std.specs.Ordering.{nat_cmp}
use Rattle.span_timing.proofs.Adding.{added}
use Rattle.span_timing.specs.Histogram.{bucket_end, counts_in}
use Rattle.span_timing.proofs.histogram.Histogram.add.Goals as goal

pub returns-clause-added : goal.returns-clause-added
returns-clause-added c = λ times was fits.
    let es = counts_in c.args.self.now in
    let end = c.bucket_end-end.ensures in
    let found : c.unwrap_or-so_far.result ≡ unwrap_or (lookup (is_at (nat_cmp c.bucket_end-end.result)) es) 0 = search rules in
    let read : c.unwrap_or-so_far.result ≡ unwrap_or (lookup (is_at (nat_cmp (bucket_end c.args.time))) es) 0 =
    found ∙ ap (λ k. unwrap_or (lookup (is_at (nat_cmp k)) es) 0) end in
    let put : c.insert.new.self.entries ≡ insert_entry nat_cmp es (bucket_end c.args.time) (min (c.unwrap_or-so_far.result + 1) (2 ^ 64 - 1)) =
    c.in_ok-insert.ensures.entries ∙ ap (λ k. insert_entry nat_cmp es k c.saturating_add.result) end
    ∙ ap (λ v. insert_entry nat_cmp es (bucket_end c.args.time) v) c.saturating_add.ensures in
    let long = length-append times (c.args.time ∷ []) in
    added c.args.self.now (record { counts = c.insert.new.self; most = c.max-self.result }) times c.args.time c.unwrap_or-so_far.result
    fits (was (omega arith)) c.in_ok-insert.ensures.was_ordered read put c.max-self.ensures
