use Rattle.std.proofs.Common.{arith, ◌∙◌, ◌≡◌, ◌≤◌, ℕ, ℤ, pos, ◌+ℤ◌, refl, ap, to_z, w64}
use Rattle.std.proofs.lemmas.Int.{to_z_pos}
use Rattle.jiff.specs.Words.{epoch_day}
use Rattle.jiff.specs.Types.{Date}
use Rattle.jiff.proofs.OnLiterals.{jiff_on_literals}
use Rattle.jiff.proofs.SpanFacts.{date_add-days, can_add-days, signed_arith}
use Rattle.span_appender.proofs.name.date_of.Goals as goal

-- the first day has the number 0
first : (d : Date) → d.year ≡ pos 1970 → pos d.month ≡ pos 1 → pos d.day ≡ pos 1 → epoch_day d ≡ pos 0
unfolding jiff_on_literals
first d y m n =
    let m' : d.month ≡ 1 = omega (arith, signed_arith) in
    let n' : d.day ≡ 1 = omega (arith, signed_arith) in
    rw (y, m', n') refl

-- a small number as one with a sign
signed : (n : ℕ) → n ≤ 2932896 → to_z w64 n ≡ pos n
signed n h = to_z_pos w64 n (omega arith)

pub returns-in-Ok-clause-value : goal.returns-in-Ok-clause-value
returns-in-Ok-clause-value c =
    let ymd = c.date.ensures in
    let zero = first c.date.result ymd.0 ymd.1 ymd.2 in
    let small = signed c.args.day c.if-day-gt-LAST_DAY.false in
    let sum = date_add-days c.date.result _ c.days.result c.days.ensures in
    c.in-Ok.ensures.value ∙ (sum ∙ rw (zero, small) (omega (arith, signed_arith)))

pub returns-in-Err-clause-succeeds : goal.returns-in-Err-clause-succeeds
returns-in-Err-clause-succeeds c =
    let ymd = c.date.ensures in
    let zero = first c.date.result ymd.0 ymd.1 ymd.2 in
    let small = signed c.args.day c.if-day-gt-LAST_DAY.false in
    let can = can_add-days c.date.result _ c.days.result c.days.ensures in
    (λ _. c.if-day-gt-LAST_DAY.false, λ _. c.in-Err.ensures.succeeds.1 (can.1 (rw (zero, small) (omega (arith, signed_arith)))))
