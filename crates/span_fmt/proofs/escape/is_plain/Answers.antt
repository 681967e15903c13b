use Rattle.std.proofs.Common.{◌≡◌, ◌∙◌, sym, rules, tests}
use Rattle.std.proofs.lemmas.Iterator.{YieldsList-from_chars, YieldsList-from_slice}
use Rattle.std.proofs.lemmas.Iterator.Search.{all_from_yields_List, any_from_yields_List}
use Rattle.std.specs.List.{list_all, list_any}
use Rattle.std.specs.Str.{chars}
use Rattle.span_fmt.proofs.Unescaped.{is_plain_code, plain, plain_bytes}
use Rattle.span_fmt.specs.Escape.{is_escaped}
use Rattle.span_fmt.proofs.escape.is_plain.Goals as goal

pub returns-then-all : goal.returns-then-all
returns-then-all c = λ t.
    let words = c.args.words.now in
    let found : c.all.result ≡ list_all is_plain_code words =
    all_from_yields_List is_plain_code
    _ _ c.all.result c.all.ensures.ran (YieldsList-from_slice words (c.iter.ensures.rest ∙ c.as_bytes.ensures.value)) (λ x b q k. search (rules, tests)) in
    plain_bytes words (sym found ∙ t)

pub returns-else-all : goal.returns-else-all
returns-else-all c = λ none.
    let words = c.args.words.now in
    let found : c.any.result ≡ list_any is_escaped (chars words) =
    any_from_yields_List is_escaped _ _ c.any.result c.any.ensures.ran (YieldsList-from_chars words c.utf8.words cc) (λ x b q k. search (rules, tests)) in
    plain words c.utf8.words c.any.result found none
