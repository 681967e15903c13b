-- Forms that are told of something give what is due, extensions aside.
use Rattle.std.proofs.Common.{◌≡◌, ◌≢◌, inl, inr, ◌∙◌, ℕ, List, [], Result, Ok, Err, ap, refl, string_bytes}
use Rattle.std.specs.Borrow.{Bor}
use Rattle.std.specs.Prelude.{IfErr, IfOk, OnErr, String}
use Rattle.std.specs.declared.alloc.Global.{Global}
use Rattle.span_core.specs.Span.{number_of, values_of}
use Rattle.span_core.specs.declared.event.Event.{Event}
use Rattle.span_core.specs.declared.field.FieldValue.{FieldValue}
use Rattle.span_core.specs.declared.span.Attributes.{Attributes}
use Rattle.span_core.specs.declared.span.Id.{Id}
use Rattle.span_registry.specs.Behaviour.{OnEvent, OnNewSpan}
use Rattle.span_registry.specs.View.{View}
use Rattle.span_fmt.specs.Forms.{known_by_form, lines_give, lines_miss, names_by_form}
use Rattle.span_fmt.specs.Known.{with_values}
use Rattle.span_fmt.specs.Lines.{event_line}
use Rattle.span_fmt.specs.Text.{fields_text}
use Rattle.span_fmt.specs.declared.forms.LinesForm.{LinesForm}

-- a text that is due so is due as it is shown plainly
pub given_plainly : {E : Type 0} (r : Result (String Global) E) (due plain : List ℕ) (P : Type 0)
    → IfOk r (λ line. string_bytes line ≡ due) → due ≡ plain → P → IfOk r (λ line. (string_bytes line ≡ plain) × P)
given_plainly (Ok s) due plain P is same p = (is ∙ same, p)
given_plainly (Err e) due plain P is same p = tt

-- where it is refused, there is one
pub missed_plainly : {T E : Type 0} (r : Result T E) (due plain : List ℕ) (P : Type 0) → IfErr r (λ e. due ≢ []) → due ≡ plain → P → OnErr r ((plain ≢ []) × P)
missed_plainly (Ok s) due plain P refused same p = tt
missed_plainly (Err e) due plain P refused same p = ((λ none. refused (same ∙ none)), p)

-- ---- lines know what spans are given

abbrev Fields : Type 0
Fields = List (Bor (List ℕ) × FieldValue)

abbrev IsNoted : {E : Type 0} → Result (String Global) E → Id → Fields → LinesForm → LinesForm → Type 0
IsNoted r id values x y = IfOk r (λ line. (string_bytes line ≡ []) × (known_by_form y ≡ with_values (number_of id) values (known_by_form x)))

-- a new span
pub span_noted : {E : Type 0} (r : Result (String Global) E) (attrs : Attributes) (id : Id) (v : View) (x y : LinesForm) (values : Fields)
    → values ≡ values_of attrs → IsNoted r id values x y → names_by_form y ≡ names_by_form x
    → IfOk r (λ line. lines_give x (OnNewSpan attrs id) v (string_bytes line) y)
span_noted (Ok s) attrs id v x y values same h named =
    (h.0, h.1 ∙ ap (λ (g : Fields). with_values (number_of id) g (known_by_form x)) same, named)
span_noted (Err e) attrs id v x y values same h named = tt

pub span_missed : {E : Type 0} (r : Result (String Global) E) (attrs : Attributes) (id : Id) (v : View) (x y : LinesForm) (values : Fields)
    → values ≡ values_of attrs → OnErr r (known_by_form y ≡ known_by_form x) → OnErr r (fields_text values ≢ []) → names_by_form y ≡ names_by_form x
    → OnErr r (lines_miss x (OnNewSpan attrs id) v y)
span_missed (Ok s) attrs id v x y values same still refused named = tt
span_missed (Err e) attrs id v x y values same still refused named = (still, inr (λ none. refused (ap fields_text same ∙ none)), named)

-- an event
pub event_given : {E : Type 0} (r : Result (String Global) E) (e : Event) (v : View) (x : LinesForm) (due : List ℕ)
    → IfOk r (λ line. string_bytes line ≡ due)
    → due ≡ event_line (names_by_form x) e v (known_by_form x) → IfOk r (λ line. lines_give x (OnEvent e) v (string_bytes line) x)
event_given (Ok s) e v x due is same = (is ∙ same, refl, refl)
event_given (Err err) e v x due is same = tt

pub event_missed : {E : Type 0} (r : Result (String Global) E) (e : Event) (v : View) (x : LinesForm) (due : List ℕ)
    → IfErr r (λ err. due ≢ []) → due ≡ event_line (names_by_form x) e v (known_by_form x) → OnErr r (lines_miss x (OnEvent e) v x)
event_missed (Ok s) e v x due refused same = tt
event_missed (Err err) e v x due refused same = (refl, inl (λ none. refused (same ∙ none)), refl)
