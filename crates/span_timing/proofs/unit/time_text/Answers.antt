use Rattle.std.proofs.Common.{◌≡◌, ◌∙◌, ◌<◌, ◌≤◌, ◌++◌, ◌/◌, ℕ, IfOk, List, ap, append_assoc, arith, codes, decimal, encode_utf8, leb, string_bytes, subst, sym}
use Rattle.std.proofs.Common.{if◌then◌else◌}
use Rattle.std.proofs.lemmas.Bool.{le-leb, lt-leb}
use Rattle.span_timing.specs.Unit.{three_digits, time_text}
use Rattle.span_timing.proofs.unit.time_text.Goals as goal

abbrev micro : List ℕ
micro = encode_utf8 0xb5 ++ codes "s"

-- a time in microseconds
in_micro : (t : ℕ) → 1000 ≤ t → t < 1000000 → three_digits t ++ codes " " ++ micro ≡ time_text t
in_micro t from to =
    let seconds = three_digits (t / 1000000) ++ codes " s" in
    let milli = three_digits (t / 1000) ++ codes " ms" in
    let same = three_digits t ++ codes " " ++ encode_utf8 0xb5 ++ codes "s" in
    let nano = decimal t ++ codes " ns" in
    sym (append_assoc (three_digits t ++ codes " ") (encode_utf8 0xb5) (codes "s"))
    ∙ sym (ap (λ b. if b then seconds else (if leb 1000000 t then milli else (if leb 1000 t then same else nano))) (lt-leb 1000000000 t (omega arith))
    ∙ ap (λ b. if b then milli else (if leb 1000 t then same else nano)) (lt-leb 1000000 t to)
    ∙ ap (λ b. if b then same else nano) (le-leb 1000 t from))

pub returns-then-time-ge1000 : goal.returns-then-time-ge1000
unfolding lib.Utf8.encode
returns-then-time-ge1000 c =
    let t = c.args.time in
    let P : List ℕ → Type 0 = λ bs. IfOk c.in_unit-then-time-ge1000.result (λ text. string_bytes text ≡ bs) in
    subst P (in_micro t (omega arith) (omega arith)) c.in_unit-then-time-ge1000.ensures
