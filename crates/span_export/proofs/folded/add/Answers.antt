use Rattle.std.proofs.Common.{◌≡◌, ◌∙◌, ◌+◌, ap, rules, unwrap_or}
use Rattle.std.specs.BTreeMap.{insert_entry, is_at}
use Rattle.std.specs.Map.{lookup}
use Rattle.std.specs.String.{string_cmp}
use Rattle.span_times.specs.Measure.{capped}
use Rattle.span_export.proofs.Sums.{raised, texts}
use Rattle.span_export.proofs.folded.add.Goals as goal

pub returns : goal.returns
returns c =
    let found = lookup (is_at (string_cmp c.args.stack)) c.args.sums.now.entries in
    let so_far : c.unwrap_or-so_far.result ≡ unwrap_or found 0 = search rules in
    let time : c.saturating_add.result ≡ capped (unwrap_or found 0 + c.args.time) = c.saturating_add.ensures ∙ ap (λ n. capped (n + c.args.time)) so_far in
    ap texts c.in_ok-insert.ensures.entries ∙ ap (λ n. texts (insert_entry string_cmp c.args.sums.now.entries c.args.stack n)) time
    ∙ raised c.args.stack c.args.time c.args.sums.now.entries c.in_ok-insert.ensures.was_ordered
