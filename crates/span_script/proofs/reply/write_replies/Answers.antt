use Rattle.std.proofs.Common.{◌≡◌, ◌∙◌, ◌++◌, ap, map, sym, rules, string_bytes}
use Rattle.std.proofs.lemmas.Iterator.{YieldsList-from_slice, YieldsList-from_zip}
use Rattle.std.proofs.lemmas.Iterator.Consumers.{YieldsList-end}
use Rattle.std.proofs.lemmas.List.Folds.{flat_map-map}
use Rattle.std.specs.Prelude.{flat_map, zip}
use Rattle.span_script.specs.Printed.{labels_in, name_by, replies, reply_text}
use Rattle.span_script.proofs.reply.write_replies.Goals as goal

-- each line with its answer was replied to
pub returns : goal.returns
returns c =
    let name = name_by (labels_in c.args.names.now) in
    let given : map (λ p. (p.0.now, p.1.now)) c.loop-line.yielded ≡ zip c.args.lines.now c.args.answers.now =
    (YieldsList-end (YieldsList-from_zip (YieldsList-from_slice c.args.lines.now (search rules)) (YieldsList-from_slice c.args.answers.now (search rules)))
    c.loop-line.yielded _ c.loop-line.yielded_by _ c.next.new.self c.in-None.is c.next.ensures.steps).0 in
    let all : flat_map (λ both. reply_text name both.0.now both.1.now) c.loop-line.yielded ≡ replies name c.args.lines.now c.args.answers.now =
    sym (flat_map-map (λ p. reply_text name p.0 p.1) (λ p. (p.0.now, p.1.now)) c.loop-line.yielded)
    ∙ ap (λ pairs. flat_map (λ p. reply_text name p.0 p.1) pairs) given in
    c.loop-line.invariant ∙ ap (λ rest. string_bytes c.args.text.now ++ rest) all
