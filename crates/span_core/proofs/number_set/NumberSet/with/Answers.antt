use Rattle.std.proofs.Common.{◌-◌, ◌^◌, Bool, ap, sym, ◌∙◌, arith}
use Rattle.std.specs.Prelude.{if◌then◌else◌}
use Rattle.std.proofs.lemmas.Nat.{and_le_l, or_lt}
use Rattle.span_core.specs.NumberSet.{has_number}
use Rattle.span_core.proofs.Words.{is_one, is_one-or, is_one-without}
use Rattle.span_core.proofs.number_set.NumberSet.with.Goals as goal
use Rattle.span_core.proofs.number_set.NumberSet.with.Goals.{then-held, else-held}

pub invariant_of-result : goal.invariant_of-result
invariant_of-result c =
    let a = c.args.self in
    let b = c.args.numbers in
    record {
      fits = elim c.if-held.branch [
        | then-held w ↦ let most = or_lt 128 a.bits b.bits a.fits b.fits in omega (arith, w.bits-is, most)
        | else-held w ↦ let most = and_le_l a.bits (2 ^ 128 - 1 - b.bits) in omega (arith, w.bits-is, most, a.fits)
      ];
    }

pub returns : goal.returns
returns c = λ n.
    let a = c.args.self in
    let b = c.args.numbers in
    elim c.if-held.branch [
      | then-held w ↦
          ap (λ word. is_one word n) w.bits-is ∙ is_one-or a.bits b.bits n
          ∙ ap (λ (held : Bool). if has_number b n then held else has_number a n) (sym w.if-held.true)
      | else-held w ↦
          ap (λ word. is_one word n) w.bits-is ∙ is_one-without a.bits b.bits n a.fits b.fits
          ∙ ap (λ (held : Bool). if has_number b n then held else has_number a n) (sym w.if-held.false)
    ]
