use Rattle.std.proofs.Common.{◌≡◌, ◌∙◌, sym, rules, tests}
use Rattle.std.proofs.lemmas.Iterator.{YieldsList-from_chars, YieldsList-from_slice}
use Rattle.std.proofs.lemmas.Iterator.Search.{all_from_yields_List, any_from_yields_List}
use Rattle.std.specs.List.{list_all, list_any}
use Rattle.std.specs.Str.{chars}
use Rattle.span_fmt.proofs.Unquoted.{bare_bytes, is_bare_code, is_guarded, unquoted}
use Rattle.span_fmt.proofs.quote.stays_inside.Goals as goal

pub returns-then-all : goal.returns-then-all
returns-then-all c = λ t.
    let words = c.args.words.now in
    let found : c.all.result ≡ list_all is_bare_code words =
    all_from_yields_List is_bare_code
    _ _ c.all.result c.all.ensures.ran (YieldsList-from_slice words (c.iter.ensures.rest ∙ c.as_bytes.ensures.value)) (λ x b q k. search (rules, tests)) in
    bare_bytes words (sym found ∙ t)

pub returns-else-all : goal.returns-else-all
returns-else-all c = λ none.
    let words = c.args.words.now in
    let found : c.any.result ≡ list_any is_guarded (chars words) =
    any_from_yields_List is_guarded _ _ c.any.result c.any.ensures.ran (YieldsList-from_chars words c.utf8.words cc) (λ x b q k. search (rules, tests)) in
    unquoted words c.utf8.words c.any.result found none
