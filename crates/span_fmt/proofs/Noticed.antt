-- Lines that are told of something go on by their step.
use Rattle.std.proofs.Common.{◌≡◌, ◌∙◌, ℕ, true, false, List, [], ap, refl, sym}
use Rattle.std.proofs.lemmas.List.{append-nil}
use Rattle.std.specs.Borrow.{Bor}
use Rattle.span_core.specs.Span.{number_of, values_of}
use Rattle.span_core.specs.declared.event.Event.{Event}
use Rattle.span_core.specs.declared.field.FieldValue.{FieldValue}
use Rattle.span_core.specs.declared.span.Attributes.{Attributes}
use Rattle.span_core.specs.declared.span.Id.{Id}
use Rattle.span_registry.specs.Behaviour.{OnEvent, OnNewSpan}
use Rattle.span_registry.specs.View.{View}
use Rattle.span_fmt.specs.Known.{with_values}
use Rattle.span_fmt.specs.Lines.{TakesNotice, event_line, has_failed, known_of, names_of, text_of}
use Rattle.span_fmt.specs.Page.{Writes, is_cut}
use Rattle.span_fmt.specs.Text.{fields_text}
use Rattle.span_fmt.specs.declared.lines.Lines.{Lines}
use Rattle.span_fmt.specs.declared.page.Page.{Page}

-- of a new span
pub new_noticed : (attrs : Attributes) (id : Id) (v : View) (x y : Lines) (values : List (Bor (List ℕ) × FieldValue))
    → values ≡ values_of attrs → text_of y ≡ text_of x → (has_failed y ≡ false → has_failed x ≡ false)
    → (has_failed y ≡ false → known_of y ≡ with_values (number_of id) values (known_of x))
    → (has_failed y ≡ true → known_of y ≡ known_of x) → (fields_text values ≡ [] → has_failed y ≡ has_failed x) → names_of y ≡ names_of x
    → TakesNotice (OnNewSpan attrs id) v x y
new_noticed attrs id v x y values is text before known failed free names = record {
  before = before;
  line = λ sound. text ∙ sym (append-nil (text_of x));
  known = λ sound. known sound ∙ ap (λ (given : List (Bor (List ℕ) × FieldValue)). with_values (number_of id) given (known_of x)) is;
  same = λ refused. text;
  still = failed;
  free = λ none added. free (ap fields_text is ∙ added);
  names = names;
}

-- of an event
pub event_noticed : (e : Event) (v : View) (x : Lines) (p : Page)
    → Writes (event_line (names_of x) e v (known_of x)) x.page p → TakesNotice (OnEvent e) v x (record x { page = p })
event_noticed e v x p w = record {
  before = λ sound. (w.whole sound).0;
  line = λ sound. (w.whole sound).1;
  known = λ sound. refl;
  same = w.cut;
  still = λ refused. refl;
  free = λ none added. ap is_cut (w.none none);
  names = refl;
}
