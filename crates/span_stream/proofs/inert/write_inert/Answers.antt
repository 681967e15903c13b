use Rattle.std.proofs.Common.{◌∙◌, [], ◌∷◌, ◌++◌, ap, append_assoc, flat_map, string_bytes, sym}
use Rattle.std.specs.Str.{encode_utf8_all}
use Rattle.std.proofs.lemmas.Iterator.{YieldsList-from_chars}
use Rattle.std.proofs.lemmas.Iterator.Consumers.{YieldsList-end}
use Rattle.std.proofs.lemmas.List.{append-nil, map-id}
use Rattle.std.proofs.lemmas.List.Concat.{flat_map-append}
use Rattle.std.proofs.lemmas.Str.{encodes-append}
use Rattle.span_stream.specs.Inert.{inertly}
use Rattle.span_stream.proofs.inert.write_inert.Goals as goal

pub loop-character-preserved : goal.loop-character-preserved
loop-character-preserved c =
    let so_far = c.loop-character.yielded in
    let one = c.in-Some.character in
    let start = string_bytes c.args.text.now in
    c.in_ok-write_inertly.ensures ∙ ap (λ t. t ++ encode_utf8_all (inertly one)) c.loop-character.invariant
    ∙ append_assoc start (encode_utf8_all (flat_map inertly so_far)) (encode_utf8_all (inertly one))
    ∙ ap (λ t. start ++ t)
    (sym (ap encode_utf8_all (flat_map-append inertly so_far (one ∷ []) ∙ ap (λ t. flat_map inertly so_far ++ t) (append-nil (inertly one)))
    ∙ encodes-append (flat_map inertly so_far) (inertly one)))

pub returns : goal.returns
returns c =
    let all = YieldsList-end (YieldsList-from_chars c.args.json.now c.utf8.json cc)
    c.loop-character.yielded _ c.loop-character.yielded_by _ _ c.in-None.is c.next.ensures.steps in
    c.loop-character.invariant
    ∙ ap (λ cs. string_bytes c.args.text.now ++ encode_utf8_all (flat_map inertly cs)) (sym (map-id c.loop-character.yielded) ∙ all.0)
