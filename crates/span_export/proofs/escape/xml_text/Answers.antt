use Rattle.std.proofs.Common.{◌∙◌, [], ◌∷◌, ◌++◌, ap, flat_map, sym}
use Rattle.std.proofs.lemmas.Iterator.{YieldsList-from_chars}
use Rattle.std.proofs.lemmas.Iterator.Consumers.{YieldsList-end}
use Rattle.std.proofs.lemmas.List.{append-nil, map-id}
use Rattle.std.proofs.lemmas.List.Concat.{flat_map-append}
use Rattle.span_export.specs.Escape.{xml_of}
use Rattle.span_export.proofs.escape.xml_text.Goals as goal

pub loop-character-preserved : goal.loop-character-preserved
loop-character-preserved c =
    let so_far = c.loop-character.yielded in
    let one = c.in-Some.character in
    c.in_ok-write_in_xml.ensures ∙ ap (λ t. t ++ xml_of one) c.loop-character.invariant
    ∙ sym (flat_map-append xml_of so_far (one ∷ []) ∙ ap (λ t. flat_map xml_of so_far ++ t) (append-nil (xml_of one)))

pub returns : goal.returns
returns c =
    let all = YieldsList-end (YieldsList-from_chars c.args.text.now c.utf8.text cc)
    c.loop-character.yielded _ c.loop-character.yielded_by _ _ c.in-None.is c.next.ensures.steps in
    c.loop-character.invariant ∙ ap (flat_map xml_of) (sym (map-id c.loop-character.yielded) ∙ all.0)
