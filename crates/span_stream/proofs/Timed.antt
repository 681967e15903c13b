-- Times, as they are written.
use Rattle.std.proofs.Common.{◌≡◌, ◌∙◌, ◌-◌, ℕ, pos, false, List, [], ◌++◌, Option, Some, ap, append_assoc, arith, length, replicate, sym}
use Rattle.std.proofs.lemmas.List.{append-nil}
use Rattle.std.specs.Fmt.{char_count, format_spec, padded_integral}
use Rattle.std.specs.Prelude.{◌^◌, Bool, decimal, if◌then◌else◌, is_ok, OnOk, Result, Ok, Err}
use Rattle.span_stream.specs.declared.time.TimeStyle.{TimeStyle}
use Rattle.jiff_core.specs.declared.timestamp.Timestamp.{Timestamp}
use Rattle.jiff_fmt.specs.Printer.{IsTimestampText, options}
use Rattle.jiff_fmt.specs.Text.{datetime_text, zulu_text}
use Rattle.jiff_fmt.specs.declared.temporal.printer.DateTimePrinter.{DateTimePrinter}
use Rattle.span_stream.specs.Time.{IsTimeText, six_digits}
use Rattle.span_stream.specs.declared.time.TimeStyle.TheVariants as style

-- what a printer with these options writes of an instant
pub utc_shown : (p : DateTimePrinter) (t : Timestamp) (text : List ℕ) (time : ℕ)
    → IsTimestampText p t text → options p ≡ (false, 84, Some 6) → t.nanosecond ≡ pos time → IsTimeText style.Utc time text
utc_shown p t text time shown how at =
    (shown.0, shown.1 ∙ at, shown.2 ∙ ap (λ (o : Bool × ℕ × Option ℕ). datetime_text o.0 o.1 o.2 shown.0 ++ zulu_text o.0) how)

-- a text that grew where it succeeded
pub time_pushed : {E : Type 0} (r : Result (Unit {0}) E) (style : TimeStyle) (time : ℕ) (old new text : List ℕ)
    → IsTimeText style time text → new ≡ (if is_ok r then old ++ text else old) → OnOk r ((t : List ℕ) × IsTimeText style time t × (new ≡ old ++ t))
time_pushed (Ok u) style time old new text is grown = (text, is, grown)
time_pushed (Err e) style time old new text is grown = tt

less_nothing : (n : ℕ) → n - 0 - 0 ≡ n
less_nothing n = omega arith

-- a number as `{:06}` writes it
pub six_written : (n : ℕ) → padded_integral (format_spec 32 0 4 6 (2 ^ 64 - 1)) false [] (decimal n) ≡ six_digits n
unfolding padded_integral char_count
six_written n =
    let digits = decimal n in
    ap (λ (k : ℕ). replicate k 48 ++ (digits ++ [])) (less_nothing (6 - length digits))
    ∙ ap (λ (t : List ℕ). replicate (6 - length digits) 48 ++ t) (append-nil digits)

-- four pieces, joined from the right or from the left
pub four_joined : (a b c d : List ℕ) → a ++ (b ++ (c ++ d)) ≡ a ++ b ++ c ++ d
four_joined a b c d = sym (append_assoc (a ++ b) c d ∙ append_assoc a b (c ++ d))
