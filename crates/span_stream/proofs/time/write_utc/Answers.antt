use Rattle.std.proofs.Common.{◌≡◌, ◌∙◌, ℕ, pos, false, Bool, Option, Some, ap, subst, sym, string_bytes, rules}
use Rattle.jiff_fmt.specs.Printer.{options}
use Rattle.span_stream.proofs.Timed.{time_pushed, utc_shown}
use Rattle.span_stream.specs.Time.{IsTimeText}
use Rattle.span_stream.specs.declared.time.TimeStyle.TheVariants as style
use Rattle.span_stream.proofs.time.write_utc.Goals as goal

pub returns : goal.returns
returns c =
    let how : options c.precision-printer.result ≡ (false, 84, Some 6) =
    c.precision-printer.ensures ∙ ap (λ (o : Bool × ℕ × Option ℕ). (o.0, o.1, Some 6)) c.new.ensures in
    let at : c.in-Ok.instant.nanosecond ≡ pos c.args.time = search rules in
    let shown = utc_shown c.precision-printer.result c.in-Ok.instant c.timestamp_text.result.bytes c.args.time c.timestamp_text.ensures how at in
    let text : IsTimeText style.Utc c.args.time c.as_str.result.now = subst (IsTimeText style.Utc c.args.time) (sym c.as_str.ensures.value) shown in
    time_pushed c.push_str.result
    style.Utc c.args.time (string_bytes c.args.text.now) (string_bytes c.push_str.new.self) c.as_str.result.now text c.push_str.ensures.bytes
