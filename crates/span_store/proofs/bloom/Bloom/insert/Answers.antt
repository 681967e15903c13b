use Rattle.std.proofs.Common.{◌≡◌, ◌%◌, ◌*◌, ◌^◌, sym, ap, ◌∙◌, ⊎_elim, bit_or, w64}
use Rattle.std.proofs.lemmas.Bool.{cases_eq}
use Rattle.std.proofs.lemmas.Nat.Bits.{bit_at_set_same, bit_at_set_other}
use Rattle.std.specs.Int.{bit_at}
use Rattle.span_store.proofs.bloom.Bloom.insert.Goals as goal

pub returns-clause-put : goal.returns-clause-put
returns-clause-put c =
    let k = c.bit_of.result in
    ap (bit_at (bit_or c.args.self.now.bits (1 * 2 ^ k % 2 ^ 64))) (sym c.bit_of.ensures.bit)
    ∙ bit_at_set_same w64 c.args.self.now.bits k c.bit_of.ensures.within

pub returns-clause-kept : goal.returns-clause-kept
returns-clause-kept c = λ x h.
    let k = c.bit_of.result in
    ⊎_elim
    (λ (e : x % 64 ≡ k). ap (bit_at (bit_or c.args.self.now.bits (1 * 2 ^ k % 2 ^ 64))) e ∙ bit_at_set_same w64 c.args.self.now.bits k c.bit_of.ensures.within)
    (λ (e : x % 64 ≡ k → ⊥). bit_at_set_other w64 c.args.self.now.bits k c.bit_of.ensures.within (x % 64) e ∙ h)
    (cases_eq (x % 64) k)
