-- Fields that have a value, and those that have none.
use Rattle.std.proofs.Common.{◌≡◌, ◌≢◌, ◌∙◌, ℕ, Bool, true, false, IsTrue, List, [], ◌∷◌, ◌++◌, arith, not, refl, sym}
use Rattle.std.proofs.Math.Bool.{cond}
use Rattle.std.proofs.lemmas.Bool.{true≢false}
use Rattle.std.proofs.lemmas.Bool.Decides.{nat_tests}
use Rattle.std.proofs.lemmas.List.{append-nil}
use Rattle.std.specs.Borrow.{Bor}
use Rattle.std.specs.List.{list_all, list_any}
use Rattle.std.specs.Prelude.{◌&&◌, ◌||◌, flat_map}
use Rattle.span_core.specs.Field.{is_absent, present}
use Rattle.span_core.specs.declared.field.FieldValue.{FieldValue}
use Rattle.span_fmt.specs.Known.{SpanTexts, with_text}
use Rattle.span_format.specs.Field.{field_text, fields_text, has_message, is_message}
use Rattle.span_format.specs.Kept.{with_values}
use Rattle.span_format.specs.declared.layout.Layout.{Layout}
use Rattle.span_format.specs.declared.layout.Layout.TheVariants as layout

abbrev Fields : Type 0
Fields = List (Bor (List ℕ) × FieldValue)

-- a test tells whether there are no fields
abbrev Tells : Bool → Fields → Type 0
Tells b fields = (IsTrue b → fields ≡ []) × (fields ≡ [] → IsTrue b)

one_told : (a b : Bool) (f : Bor (List ℕ) × FieldValue) (rest : Fields) → Tells b rest → Tells (a && b) (cond (not a) (f ∷ rest) rest)
one_told true b f rest h = h
one_told false b f rest h = (λ t. cc, λ e. cc)

-- no field has a value where each is absent
pub absent_told : (values : Fields) → Tells (list_all (λ f. is_absent f.1) values) (present values)
absent_told [] = (λ t. refl, λ e. refl)
absent_told (f ∷ fs) = one_told (is_absent f.1) (list_all (λ f. is_absent f.1) fs) f (present fs) (absent_told fs)

-- where it says that there are some, there are
pub some_present : {b : Bool} {fields : Fields} → Tells b fields → b ≡ false → fields ≢ []
some_present h is none = true≢false (sym (h.1 none) ∙ is)

filled : (how : Layout) (fields : Fields) → fields ≢ [] → flat_map (λ f. field_text how f.0.now f.1) fields ≢ []
filled how [] some none = some refl
filled layout.Full (f ∷ fs) some none = cc
filled layout.Compact (f ∷ fs) some none = cc
filled layout.Pretty (f ∷ fs) some none = cc

-- where a field has a value, there is a text
pub fields_filled : (how : Layout) (values : Fields) → present values ≢ [] → fields_text how values ≢ []
fields_filled how values some = filled how (present values) some

-- a span that is given no text is known as before
as_before : (x n : ℕ) (known : SpanTexts) → known n ≡ with_text x (known x ++ []) known n
as_before x n known = grind (arith, nat_tests, append-nil)

-- so is one that is given fields of which none has a value
pub none_noted : (how : Layout) (x : ℕ) (values : Fields) (known : SpanTexts) → present values ≡ [] → known ≡ with_values how x values known
none_noted how x values known none = rw none (λ i n. as_before x n known i)

abbrev is_said : Bor (List ℕ) × FieldValue → Bool
is_said f = not (is_absent f.1) && is_message f.0.now

one_said : (absent m r : Bool) (f : Bor (List ℕ) × FieldValue) (rest : Fields)
    → m ≡ is_message f.0.now → r ≡ list_any (λ g. is_message g.0.now) rest
    → (not absent && m) || r ≡ list_any (λ g. is_message g.0.now) (cond (not absent) (f ∷ rest) rest)
one_said true m r f rest e h = h
one_said false m r f rest e h = λ i. e i || h i

-- a message among all is one among those that have a value
pub message_among : (values : Fields) → list_any is_said values ≡ has_message values
message_among [] = refl
message_among (f ∷ fs) = one_said (is_absent f.1) (is_message f.0.now) (list_any is_said fs) f (present fs) refl (message_among fs)
