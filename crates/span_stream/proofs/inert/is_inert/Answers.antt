use Rattle.std.proofs.Common.{◌≡◌, ◌∙◌, sym, rules, tests}
use Rattle.std.proofs.lemmas.Iterator.{YieldsList-from_chars, YieldsList-from_slice}
use Rattle.std.proofs.lemmas.Iterator.Search.{all_from_yields_List, any_from_yields_List}
use Rattle.std.specs.List.{list_all, list_any}
use Rattle.std.specs.Str.{chars}
use Rattle.span_stream.proofs.Characters.{inert_printable, is_printable, unacting}
use Rattle.span_stream.specs.Inert.{may_act}
use Rattle.span_stream.proofs.inert.is_inert.Goals as goal

pub returns-then-all : goal.returns-then-all
returns-then-all c = λ t.
    let text = c.args.text.now in
    let found : c.all.result ≡ list_all is_printable text =
    all_from_yields_List is_printable
    _ _ c.all.result c.all.ensures.ran (YieldsList-from_slice text (c.iter.ensures.rest ∙ c.as_bytes.ensures.value)) (λ x b q k. search (rules, tests)) in
    inert_printable text (sym found ∙ t)

pub returns-else-all : goal.returns-else-all
returns-else-all c = λ none.
    let text = c.args.text.now in
    let found : c.any.result ≡ list_any may_act (chars text) =
    any_from_yields_List may_act _ _ c.any.result c.any.ensures.ran (YieldsList-from_chars text c.utf8.text cc) (λ x b q k. search (rules, tests)) in
    unacting text c.utf8.text c.any.result found none
