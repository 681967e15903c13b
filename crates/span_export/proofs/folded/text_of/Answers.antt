use Rattle.std.proofs.Common.{◌≡◌, ◌<◌, ◌∙◌, ◌++◌, arith, ap, codes, get_or, length, map, rules, string_bytes, sym}
use Rattle.std.proofs.lemmas.List.{get_or-map, length-map}
use Rattle.span_core.specs.Span.{number_of}
use Rattle.span_export.proofs.Names.{one_more_name}
use Rattle.span_export.specs.Folded.{stack_frame, stack_text}
use Rattle.span_export.specs.Site.{named_by}
use Rattle.span_export.proofs.folded.text_of.Goals as goal

pub loop-span-preserved : goal.loop-span-preserved
loop-span-preserved c =
    let named = named_by c.args.spans.now in
    let spans = map number_of c.in-Some.rest.now in
    let i = c.loop-span.span-index in
    let within : i < length spans = simp length-map (omega arith) in
    let one : number_of (get_or c.in-Some.rest.now i (record { number = 0 })) ≡ get_or spans i 0 =
    sym (get_or-map number_of c.in-Some.rest.now i (record { number = 0 }) 0 (omega arith)) in
    let text : c.as_str-in-loop-span.result.now ≡ stack_frame (named (get_or spans i 0)) =
    c.as_str-in-loop-span.ensures.value ∙ c.in_ok-frame-2.ensures ∙ ap stack_frame (c.name-in-loop-span.ensures ∙ ap named one) in
    one_more_name (codes ";") (λ x. stack_frame (named x)) spans i 0
    (string_bytes c.loop-span.text) (string_bytes c.push_str-in-loop-span.new.self) (string_bytes c.push_str-in-loop-span-2.new.self)
    (stack_text named (map number_of c.args.stack.now)) within (search rules)
    (c.in_ok-push_str-3.ensures.bytes ∙ ap (λ n. string_bytes c.push_str-in-loop-span.new.self ++ n) text) c.loop-span.invariant
