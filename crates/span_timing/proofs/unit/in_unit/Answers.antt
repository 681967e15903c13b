use Rattle.std.proofs.Common.{◌≡◌, ◌∙◌, ◌<◌, ◌≤◌, ◌++◌, ◌/◌, ◌%◌, ℕ, IfOk, List, ap, append_assoc, arith, codes, decimal, leb, string_bytes, subst, sym}
use Rattle.std.proofs.Common.{if◌then◌else◌}
use Rattle.std.proofs.lemmas.Bool.{le-leb, lt-leb}
use Rattle.span_timing.specs.Unit.{three_digits}
use Rattle.span_timing.proofs.unit.in_unit.Goals as goal

-- a whole number, a fraction of tenths, and one of hundredths
abbrev whole : ℕ → List ℕ
whole n = decimal (n / 1000)

abbrev tenths : ℕ → List ℕ
tenths n = whole n ++ codes "." ++ decimal (n / 100 % 10)

abbrev hundredths : ℕ → List ℕ
hundredths n = tenths n ++ decimal (n / 10 % 10)

large : (n : ℕ) → 100000 ≤ n → three_digits n ≡ whole n
large n h = ap (λ b. if b then whole n else (if leb 10000 n then tenths n else hundredths n)) (le-leb 100000 n h)

middle : (n : ℕ) → 10000 ≤ n → n < 100000 → three_digits n ≡ tenths n
middle n h up =
    ap (λ b. if b then whole n else (if leb 10000 n then tenths n else hundredths n)) (lt-leb 100000 n up)
    ∙ ap (λ b. if b then tenths n else hundredths n) (le-leb 10000 n h)

small : (n : ℕ) → n < 10000 → three_digits n ≡ hundredths n
small n up =
    ap (λ b. if b then whole n else (if leb 10000 n then tenths n else hundredths n)) (lt-leb 100000 n (omega arith))
    ∙ ap (λ b. if b then tenths n else hundredths n) (lt-leb 10000 n up)

pub returns-then-thousandths-ge100000 : goal.returns-then-thousandths-ge100000
returns-then-thousandths-ge100000 c =
    let n = c.args.thousandths in
    let unit = c.args.unit.now in
    let P : List ℕ → Type 0 = λ bs. IfOk c.format.result (λ text. string_bytes text ≡ bs) in
    let spelled : whole n ++ (codes " " ++ unit) ≡ three_digits n ++ codes " " ++ unit =
    sym (ap (λ t. t ++ codes " " ++ unit) (large n c.if-thousandths-ge100000.true) ∙ append_assoc (whole n) (codes " ") unit) in
    subst P spelled c.format.ensures.ok

pub returns-then-thousandths-ge10000 : goal.returns-then-thousandths-ge10000
returns-then-thousandths-ge10000 c =
    let n = c.args.thousandths in
    let unit = c.args.unit.now in
    let P : List ℕ → Type 0 = λ bs. IfOk c.format-then-thousandths-ge10000.result (λ text. string_bytes text ≡ bs) in
    let spelled : whole n ++ (codes "." ++ (decimal (n / 100 % 10) ++ (codes " " ++ unit))) ≡ three_digits n ++ codes " " ++ unit =
    sym (ap (λ t. t ++ codes " " ++ unit) (middle n (omega arith) (omega arith)) ∙ simp append_assoc) in
    subst P spelled c.format-then-thousandths-ge10000.ensures.ok

pub returns-else-thousandths-ge10000 : goal.returns-else-thousandths-ge10000
returns-else-thousandths-ge10000 c =
    let n = c.args.thousandths in
    let unit = c.args.unit.now in
    let P : List ℕ → Type 0 = λ bs. IfOk c.format-else-thousandths-ge10000.result (λ text. string_bytes text ≡ bs) in
    let spelled : whole n ++ (codes "." ++ (decimal (n / 100 % 10) ++ (decimal (n / 10 % 10) ++ (codes " " ++ unit)))) ≡ three_digits n ++ codes " " ++ unit =
    sym (ap (λ t. t ++ codes " " ++ unit) (small n (omega arith)) ∙ simp append_assoc) in
    subst P spelled c.format-else-thousandths-ge10000.ensures.ok
