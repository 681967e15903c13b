-- Formats that are notified give what is due, extensions aside.
use Rattle.std.proofs.Common.{◌≡◌, ◌≢◌, inl, inr, ◌∙◌, ℕ, List, [], Result, Ok, Err, ap, refl, string_bytes}
use Rattle.std.specs.Borrow.{Bor}
use Rattle.std.specs.Prelude.{IfErr, IfOk, OnErr, OnOk, String}
use Rattle.std.specs.declared.alloc.Global.{Global}
use Rattle.span_core.specs.Span.{number_of, values_of}
use Rattle.span_core.specs.declared.event.Event.{Event}
use Rattle.span_core.specs.declared.field.FieldValue.{FieldValue}
use Rattle.span_core.specs.declared.span.Attributes.{Attributes}
use Rattle.span_core.specs.declared.span.Id.{Id}
use Rattle.span_registry.specs.Behaviour.{OnEvent, OnNewSpan}
use Rattle.span_registry.specs.View.{View}
use Rattle.span_format.specs.Field.{fields_text}
use Rattle.span_format.specs.Format.{format_gives, format_misses, kept_by, looks_of}
use Rattle.span_format.specs.Kept.{with_values}
use Rattle.span_format.specs.Line.{event_line}
use Rattle.span_format.specs.declared.format.Format.{Format}

abbrev Fields : Type 0
Fields = List (Bor (List ℕ) × FieldValue)

module _ {E : Type 0} (r : Result (String Global) E) (x y : Format) (v : View) where
  -- of a new span
  pub span_given : (attrs : Attributes) (id : Id) (values : Fields) → values ≡ values_of attrs → IfOk r (λ line. string_bytes line ≡ [])
      → OnOk r (kept_by y ≡ with_values (looks_of x).layout (number_of id) values (kept_by x)) → looks_of y ≡ looks_of x
      → IfOk r (λ line. format_gives x (OnNewSpan attrs id) v (string_bytes line) y)
  span_given attrs id values same none noted looks = given r none noted where
    given : (r : Result (String Global) E) → IfOk r (λ line. string_bytes line ≡ [])
        → OnOk r (kept_by y ≡ with_values (looks_of x).layout (number_of id) values (kept_by x))
        → IfOk r (λ line. format_gives x (OnNewSpan attrs id) v (string_bytes line) y)
    given (Ok s) none noted = record {
      given = none;
      kept = noted ∙ ap (λ (fs : Fields). with_values (looks_of x).layout (number_of id) fs (kept_by x)) same;
      looks = looks;
    }
    given (Err e) none noted = tt

  -- where memory for that is refused
  pub span_missed : (attrs : Attributes) (id : Id) (values : Fields) → values ≡ values_of attrs
      → OnErr r (kept_by y ≡ kept_by x) → OnErr r (fields_text (looks_of x).layout values ≢ []) → looks_of y ≡ looks_of x
      → OnErr r (format_misses x (OnNewSpan attrs id) v y)
  span_missed attrs id values same unchanged refused looks = missed r unchanged refused where
    missed : (r : Result (String Global) E) → OnErr r (kept_by y ≡ kept_by x) → OnErr r (fields_text (looks_of x).layout values ≢ [])
        → OnErr r (format_misses x (OnNewSpan attrs id) v y)
    missed (Ok s) unchanged refused = tt
    missed (Err e) unchanged refused = record {
      due = inr (λ none. refused (ap (λ (fs : Fields). fields_text (looks_of x).layout fs) same ∙ none));
      kept = unchanged;
      looks = looks;
    }

  -- of an event
  pub event_given : (e : Event) (due : List ℕ) → IfOk r (λ line. string_bytes line ≡ due) → due ≡ event_line (looks_of x) e v (kept_by x)
      → IfOk r (λ line. format_gives x (OnEvent e) v (string_bytes line) x)
  event_given e due is same = given r is where
    given : (r : Result (String Global) E) → IfOk r (λ line. string_bytes line ≡ due) → IfOk r (λ line. format_gives x (OnEvent e) v (string_bytes line) x)
    given (Ok s) is = record { given = is ∙ same; kept = refl; looks = refl }
    given (Err e) is = tt

  -- where memory for that is refused
  pub event_missed : (e : Event) (due : List ℕ) → IfErr r (λ e. due ≢ []) → due ≡ event_line (looks_of x) e v (kept_by x)
      → OnErr r (format_misses x (OnEvent e) v x)
  event_missed e due refused same = missed r refused where
    missed : (r : Result (String Global) E) → IfErr r (λ e. due ≢ []) → OnErr r (format_misses x (OnEvent e) v x)
    missed (Ok s) refused = tt
    missed (Err e) refused = record { due = inl (λ none. refused (same ∙ none)); kept = refl; looks = refl }
