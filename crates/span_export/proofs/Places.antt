-- Times with three places, as they are written.
use Rattle.std.proofs.Common.{◌≡◌, ◌∙◌, ◌-◌, ℕ, false, List, [], ◌++◌, ap, append_assoc, arith, length, replicate, sym}
use Rattle.std.proofs.lemmas.List.{append-nil}
use Rattle.std.specs.Fmt.{char_count, format_spec, padded_integral}
use Rattle.std.specs.Prelude.{◌^◌, decimal}
use Rattle.span_export.specs.When.{three_digits}

less_nothing : (n : ℕ) → n - 0 - 0 ≡ n
less_nothing n = omega arith

-- a number as `{:03}` writes it
pub three_written : (n : ℕ) → padded_integral (format_spec 32 0 4 3 (2 ^ 64 - 1)) false [] (decimal n) ≡ three_digits n
unfolding padded_integral char_count
three_written n =
    let digits = decimal n in
    ap (λ (k : ℕ). replicate k 48 ++ (digits ++ [])) (less_nothing (3 - length digits))
    ∙ ap (λ (t : List ℕ). replicate (3 - length digits) 48 ++ t) (append-nil digits)

-- five pieces, joined from the right or from the left
pub five_joined : (a b c d e : List ℕ) → a ++ (b ++ (c ++ (d ++ e))) ≡ a ++ b ++ c ++ d ++ e
five_joined a b c d e =
    sym (append_assoc (a ++ b ++ c) d e ∙ append_assoc (a ++ b) c (d ++ e) ∙ append_assoc a b (c ++ (d ++ e)))
