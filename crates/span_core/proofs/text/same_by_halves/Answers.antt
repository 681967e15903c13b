use Rattle.std.proofs.Common.{◌-◌, length, take, drop, ap, ◌∙◌, sym, arith}
use Rattle.std.proofs.lemmas.Bool.{and_from, and_parts}
use Rattle.std.proofs.lemmas.List.{length-take-le, take_rest}
use Rattle.span_core.proofs.Overlap.{same_by_ends}
use Rattle.span_core.proofs.text.same_by_halves.Goals as goal

pub same_by_eights-requires : goal.same_by_eights-requires
same_by_eights-requires c =
    let a = length-take-le 16 c.args.a.now (omega arith) in
    let b = length-take-le 16 c.args.b.now (omega arith) in
    (a ∙ sym b, omega (arith, a))

pub returns : goal.returns
returns c =
    let xs = c.args.a.now in
    let ys = c.args.b.now in
    let n = length xs in
    let a_last = take_rest xs (n - 16) in
    let b_last = take_rest ys (n - 16) in (
      λ t.
          let parts = and_parts _ _ t in
          same_by_ends 16 n xs ys (omega arith) (c.same_by_eights.ensures.0 parts.0) (sym a_last ∙ c.same_by_eights-2.ensures.0 parts.1 ∙ b_last),
      λ e.
          and_from _ _ (c.same_by_eights.ensures.1 (ap (take 16) e)) (c.same_by_eights-2.ensures.1 (a_last ∙ ap (drop (n - 16)) e ∙ sym b_last)),
    )
