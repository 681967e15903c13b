use Rattle.std.proofs.Common.{◌≡◌, ◌∙◌, ◌++◌, ◌<◌, ◌≤◌, [], ◌∷◌, ap, arith, get_or, length, rules, sym}
use Rattle.std.specs.Str.{bytes_eq}
use Rattle.std.proofs.lemmas.List.{get_or-map, length-map, map-append, map-set}
use Rattle.span_export.proofs.Put.{put_behind, put_end, put_here}
use Rattle.span_export.specs.Site.{given_said, put_field}
use Rattle.span_times.specs.Field.{field_said}
use Rattle.span_export.proofs.given.put.Goals as goal

pub returns-then-has_name : goal.returns-then-has_name
returns-then-has_name c =
    let f = field_said c.args.field.now in
    let gs = given_said c.loop-place.given.items in
    let i = c.loop-place.place in
    let within : i < length gs = simp length-map (omega arith) in
    let seen = field_said c.index.result.now.now in
    let at : seen ≡ get_or gs i seen =
    ap (λ r. field_said r.now) c.index.ensures ∙ sym (get_or-map (λ r. field_said r.now) c.loop-place.given.items i c.index.result.now seen (omega arith)) in
    let here : bytes_eq (get_or gs i seen).0 f.0 ≡ bytes_eq seen.0 c.as_str.result.now =
    ap (λ g. bytes_eq g.0 f.0) (sym at) ∙ ap (bytes_eq seen.0) (sym c.as_str.ensures.value) in
    map-set (λ r. field_said r.now) c.loop-place.given.items i c.args.field
    ∙ put_here f gs i seen within (here ∙ sym c.has_name.ensures ∙ c.if-has_name.true) c.loop-place.invariant.looked
    ∙ ap (λ xs. put_field f (given_said xs)) c.loop-place.invariant.same

pub loop-place-preserved : goal.loop-place-preserved
loop-place-preserved c =
    let f = field_said c.args.field.now in
    let gs = given_said c.loop-place.given.items in
    let i = c.loop-place.place in
    let within : i < length gs = simp length-map (omega arith) in
    let seen = field_said c.index.result.now.now in
    let at : seen ≡ get_or gs i seen =
    ap (λ r. field_said r.now) c.index.ensures ∙ sym (get_or-map (λ r. field_said r.now) c.loop-place.given.items i c.index.result.now seen (omega arith)) in
    let here : bytes_eq (get_or gs i seen).0 f.0 ≡ bytes_eq seen.0 c.as_str.result.now =
    ap (λ g. bytes_eq g.0 f.0) (sym at) ∙ ap (bytes_eq seen.0) (sym c.as_str.ensures.value) in
    record {
      same = c.loop-place.invariant.same;
      looked = put_behind f gs i seen within (here ∙ sym c.has_name.ensures ∙ c.if-has_name.false) c.loop-place.invariant.looked;
    }

pub returns : goal.returns
returns c =
    let f = field_said c.args.field.now in
    let gs = given_said c.loop-place.given.items in
    let past : length gs ≤ c.loop-place.place = simp length-map (omega arith) in
    let grew : c.push.new.self.items ≡ c.loop-place.given.items ++ c.args.field ∷ [] = search rules in
    ap given_said grew ∙ map-append (λ r. field_said r.now) c.loop-place.given.items (c.args.field ∷ [])
    ∙ sym (put_end f gs c.loop-place.place past c.loop-place.invariant.looked) ∙ ap (λ xs. put_field f (given_said xs)) c.loop-place.invariant.same
