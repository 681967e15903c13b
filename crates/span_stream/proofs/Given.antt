-- Forms of JSON that are notified give what is due, extensions aside.
use Rattle.std.proofs.Common.{◌≡◌, ◌∙◌, ℕ, List, [], Result, Ok, Err, ap, string_bytes, subst}
use Rattle.std.specs.Borrow.{Bor}
use Rattle.std.specs.Prelude.{◌≢◌, IfOk, OnErr, String}
use Rattle.std.specs.declared.alloc.Global.{Global}
use Rattle.span_core.specs.Field.{present}
use Rattle.span_core.specs.Span.{number_of, values_of}
use Rattle.span_core.specs.declared.event.Event.{Event}
use Rattle.span_core.specs.declared.field.FieldValue.{FieldValue}
use Rattle.span_core.specs.declared.span.Attributes.{Attributes}
use Rattle.span_core.specs.declared.span.Id.{Id}
use Rattle.span_registry.specs.Behaviour.{OnEvent, OnNewSpan}
use Rattle.span_registry.specs.View.{View}
use Rattle.span_times.specs.Clock.{Reads}
use Rattle.span_stream.specs.Json.{IsLineOf, clock_of, event_object, json_gives, json_misses, known_of, names_of, style_of}
use Rattle.span_stream.specs.Members.{with_members}
use Rattle.span_stream.specs.Time.{IsTimeText}
use Rattle.span_stream.specs.Values.{with_values}
use Rattle.span_stream.specs.declared.json_form.JsonForm.{JsonForm}

abbrev Fields : Type 0
Fields = List (Bor (List ℕ) × FieldValue)

module _ {C E : Type 0} (latest : C → ℕ) (reads : C → ℕ → C → Type 0) (x y : JsonForm C) (v : View) where
  -- of a new span
  pub span_given : (r : Result (String Global) E) (attrs : Attributes) (id : Id) (values : Fields)
      → values ≡ values_of attrs → IfOk r (λ line. string_bytes line ≡ [])
      → IfOk r (λ line. known_of y ≡ with_members (number_of id) (with_values values (known_of x (number_of id))) (known_of x))
      → clock_of y ≡ clock_of x → style_of y ≡ style_of x → names_of y ≡ names_of x
      → IfOk r (λ line. json_gives latest reads x (OnNewSpan attrs id) v (string_bytes line) y)
  span_given (Ok s) attrs id values same none noted clock style names = record {
    given = (none, clock);
    known = noted ∙ ap (λ (fs : Fields). with_members (number_of id) (with_values fs (known_of x (number_of id))) (known_of x)) same;
    style = style;
    names = names;
  }
  span_given (Err e) attrs id values same none noted clock style names = tt

  -- of a new span for whose values there is no memory
  pub span_missed : {U : Type 0} (r : Result U E) (attrs : Attributes) (id : Id) (values : Fields)
      → values ≡ values_of attrs → OnErr r (present values ≢ []) → OnErr r (known_of y ≡ known_of x)
      → clock_of y ≡ clock_of x → style_of y ≡ style_of x → names_of y ≡ names_of x → OnErr r (json_misses latest reads x (OnNewSpan attrs id) v y)
  span_missed (Ok s) attrs id values same refused still clock style names = tt
  span_missed (Err e) attrs id values same refused still clock style names = record {
    refused = λ none. refused (ap present same ∙ none);
    clock = clock;
    known = still;
    style = style;
    names = names;
  }

  -- of an event
  pub event_given : (r : Result (String Global) E) (e : Event) (seen : View) (time : ℕ)
      → ((stamp : List ℕ) → event_object stamp e seen (known_of x) (names_of x) ≡ event_object stamp e v (known_of x) (names_of x))
      → Reads latest reads (clock_of x) time (clock_of y) → known_of y ≡ known_of x → style_of y ≡ style_of x → names_of y ≡ names_of x
      → IfOk r
      (λ line. (stamp : List ℕ) × IsTimeText (style_of x) time stamp × IsLineOf (event_object stamp e seen (known_of x) (names_of x)) (string_bytes line))
      → IfOk r (λ line. json_gives latest reads x (OnEvent e) v (string_bytes line) y)
  event_given (Ok s) e seen time plainly read known style names is = record {
    given = (time, read, (is.0, is.1, subst (λ d. IsLineOf d (string_bytes s)) (plainly is.0) is.2));
    known = known;
    style = style;
    names = names;
  }
  event_given (Err err) e seen time plainly read known style names is = tt
