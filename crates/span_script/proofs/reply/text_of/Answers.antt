use Rattle.std.proofs.Common.{◌≡◌, ◌∙◌, ◌++◌, [], ap, rules, sym, string_bytes, take}
use Rattle.std.proofs.lemmas.List.{append-nil, take_all}
use Rattle.std.proofs.lemmas.List.Folds.{flat_map-map}
use Rattle.std.specs.Prelude.{flat_map}
use Rattle.span_script.specs.Printed.{all_sections, labels_in, name_by, printed, replies, section_in, section_text}
use Rattle.span_script.proofs.reply.text_of.Goals as goal

pub loop-section-init : goal.loop-section-init
loop-section-init c =
    let all = replies (name_by (labels_in c.in_ok-names.names)) c.args.lines.now c.args.answers.now in
    let empty : string_bytes c.new-text.result ≡ [] = search rules in
    c.in_ok-write_replies.ensures ∙ ap (λ xs. xs ++ all) empty ∙ sym (append-nil all)

pub returns : goal.returns
returns c =
    let name = name_by (labels_in c.in_ok-names.names) in
    let every : flat_map (λ one. section_text name (section_in one)) (take c.loop-section.section-index c.args.sections.now)
    ≡ flat_map (section_text name) (all_sections c.args.sections.now) =
    ap (λ xs. flat_map (λ one. section_text name (section_in one)) xs) (take_all c.loop-section.section-index c.args.sections.now c.loop-section-test.false)
    ∙ sym (flat_map-map (section_text name) section_in c.args.sections.now) in
    let text : string_bytes c.loop-section.text ≡ printed name c.args.lines.now c.args.answers.now (all_sections c.args.sections.now) =
    c.loop-section.invariant ∙ ap (λ rest. replies name c.args.lines.now c.args.answers.now ++ rest) every in
    (labels_in c.in_ok-names.names, (c.in_ok-names.ensures, text))
