use Rattle.std.proofs.Common.{◌≡◌, ◌∙◌, Err, ap, map, subst, sym}
use Rattle.span_targets.proofs.EnvMeaning.{refused}
use Rattle.span_targets.specs.EnvText.{env_from, meaning_of, nothing_said, said_of}
use Rattle.span_targets.specs.Targets.{names_of}
use Rattle.span_targets.specs.Text.{directives_in}
use Rattle.span_targets.specs.private.EnvTake.{EnvGives}
use Rattle.span_targets.proofs.env_filter.EnvFilter.parse.Goals as goal

pub returns-in-Ok : goal.returns-in-Ok
returns-in-Ok c =
    let new = c.new-filter.ensures in
    let begun : said_of c.new-filter.result ≡ nothing_said =
    λ i. record { targets = (ap names_of new.targets ∙ c.new.ensures) i; spans = map meaning_of (new.spans i) } in
    ap (env_from 1 (directives_in c.args.text.now)) (sym begun) ∙ c.in-Ok.ensures

pub returns-in-Err : goal.returns-in-Err
returns-in-Err c =
    let new = c.new-filter.ensures in
    let begun : said_of c.new-filter.result ≡ nothing_said =
    λ i. record { targets = (ap names_of new.targets ∙ c.new.ensures) i; spans = map meaning_of (new.spans i) } in
    refused _ c.take_all.new.self c.in-Err.error
    (subst (λ m. EnvGives (env_from 1 (directives_in c.args.text.now) m) c.take_all.new.self (Err c.in-Err.error)) begun c.in-Err.ensures)
