use Rattle.std.proofs.Common.{◌≡◌, ◌-◌, length, take, drop, ap, ◌∙◌, sym, arith}
use Rattle.std.proofs.lemmas.Bool.{and_from, and_parts}
use Rattle.span_core.proofs.Overlap.{same_by_ends}
use Rattle.span_core.proofs.text.same_by_eights.Goals as goal

pub returns : goal.returns
returns c =
    let xs = c.args.a.now in
    let ys = c.args.b.now in
    let a_first = c.in-Some-Some.ensures.cases.same in
    let b_first = c.in-Some-Some.ensures'.cases.same in
    let a_last = c.in-Some-Some-2.ensures.cases.1.same in
    let b_last = c.in-Some-Some-2.ensures'.cases.1.same in
    let last : drop (length ys - 8) ys ≡ drop (length xs - 8) ys = ap (λ n. drop (n - 8) ys) (sym c.requires.0) in (
      λ t.
          let parts = and_parts _ _ t in
          same_by_ends 8 (length xs) xs ys (omega arith)
          (sym a_first ∙ c.same_eight.ensures.0 parts.0 ∙ b_first)
          (sym a_last ∙ c.same_eight-2.ensures.0 parts.1 ∙ b_last ∙ last),
      λ e.
          and_from _ _
          (c.same_eight.ensures.1 (a_first ∙ ap (take 8) e ∙ sym b_first))
          (c.same_eight-2.ensures.1 (a_last ∙ ap (drop (length xs - 8)) e ∙ sym (b_last ∙ last))),
    )
