use Rattle.std.proofs.Common.{ap, ◌∙◌, ◌++◌, string_bytes, List, ℕ}
use Rattle.std.proofs.lemmas.Bool.{ne_eqb}
use Rattle.std.proofs.lemmas.Result.{on_ok_weaker}
use Rattle.span_fmt.proofs.Unquoted.{no_quote}
use Rattle.span_fmt.proofs.quote.write_between.Goals as goal

pub returns : goal.returns
returns c =
    on_ok_weaker c.write_character.result
    (λ bytes. bytes ∙ ap (λ (t : List ℕ). string_bytes c.args.text.now ++ t)
    (no_quote c.args.character (ne_eqb c.args.character 34 c.if-character-eq34.false)))
    c.write_character.ensures
