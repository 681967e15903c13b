use Rattle.std.proofs.Common.{◌∙◌, [], ◌∷◌, ◌++◌, ap, append_assoc, flat_map, string_bytes, sym}
use Rattle.std.proofs.lemmas.Iterator.{YieldsList-from_chars}
use Rattle.std.proofs.lemmas.Iterator.Consumers.{YieldsList-end}
use Rattle.std.proofs.lemmas.List.{append-nil, map-id}
use Rattle.std.proofs.lemmas.List.Concat.{flat_map-append}
use Rattle.std.proofs.lemmas.Str.{encodes-append}
use Rattle.std.specs.Str.{encode_utf8_all}
use Rattle.span_fmt.specs.Quote.{quote_inside}
use Rattle.span_fmt.proofs.quote.write_inside.Goals as goal

pub loop-character-preserved : goal.loop-character-preserved
loop-character-preserved c =
    let so_far = c.loop-character.yielded in
    let one = c.in-Some.character in
    let start = string_bytes c.args.text.now in
    c.in_ok-write_between.ensures ∙ ap (λ t. t ++ encode_utf8_all (quote_inside one)) c.loop-character.invariant
    ∙ append_assoc start (encode_utf8_all (flat_map quote_inside so_far)) (encode_utf8_all (quote_inside one))
    ∙ ap (λ t. start ++ t)
    (sym (ap encode_utf8_all (flat_map-append quote_inside so_far (one ∷ []) ∙ ap (λ t. flat_map quote_inside so_far ++ t) (append-nil (quote_inside one)))
    ∙ encodes-append (flat_map quote_inside so_far) (quote_inside one)))

pub returns : goal.returns
returns c =
    let all = YieldsList-end (YieldsList-from_chars c.args.words.now c.utf8.words cc)
    c.loop-character.yielded _ c.loop-character.yielded_by _ _ c.in-None.is c.next.ensures.steps in
    c.loop-character.invariant
    ∙ ap (λ cs. string_bytes c.args.text.now ++ encode_utf8_all (flat_map quote_inside cs)) (sym (map-id c.loop-character.yielded) ∙ all.0)
