-- Values that are put into objects, and spans.
use Rattle.std.proofs.Common.{◌≡◌, ◌∙◌, ◌-◌, ◌<◌, ℕ, List, [], ◌∷◌, ◌++◌, arith, ap, get_or, length, map, refl, sym}
use Rattle.std.specs.Borrow.{Bor}
use Rattle.std.specs.Prelude.{codes}
use Rattle.serde_json.specs.Data.{Data, Members, array, put}
use Rattle.serde_json.specs.View.{items_of, view}
use Rattle.serde_json.specs.declared.value.Value.{Value}
use Rattle.span_core.specs.declared.field.FieldValue.{FieldValue}
use Rattle.span_stream.specs.Object.{last_of, with_spans}
use Rattle.span_stream.specs.Values.{with_value, with_values}

-- one more
pub values_more : (fs : List (Bor (List ℕ) × FieldValue)) (f : Bor (List ℕ) × FieldValue) (ms : Members)
    → with_values (fs ++ f ∷ []) ms ≡ with_value f.0.now f.1 (with_values fs ms)
values_more [] f ms = refl
values_more (g ∷ fs) f ms = values_more fs f (with_value g.0.now g.1 ms)

-- the last of some values
last_value : (x : Value) (xs : List Value) (other : Value) → last_of (view x) (map view xs) ≡ view (get_or (x ∷ xs) (length xs) other)
last_value x [] other = refl
last_value x (y ∷ ys) other = last_value y ys other

-- the innermost span and all spans are put
pub spans_put : (xs : List Value) (v w : Value) (ms one two : Members) (all : Data)
    → 0 < length xs → v ≡ get_or xs (length xs - 1) v → view w ≡ view v → one ≡ put (codes "span") (view w) ms
    → all ≡ array (items_of (map view xs)) → two ≡ put (codes "spans") all one → two ≡ with_spans (map view xs) ms
spans_put [] v w ms one two all some is same first are second = absurd (omega arith)
spans_put (x ∷ xs) v w ms one two all some is same first are second =
    let place : length (x ∷ xs) - 1 ≡ length xs = omega arith in
    let last : view w ≡ last_of (view x) (map view xs) = same ∙ ap view (is ∙ ap (λ (n : ℕ). get_or (x ∷ xs) n v) place) ∙ sym (last_value x xs v) in
    second ∙ (λ i. put (codes "spans") (are i) ((first ∙ ap (λ (d : Data). put (codes "span") d ms) last) i))
