-- Fields that have a value, and those that have none.
use Rattle.std.proofs.Common.{rules, ap, subst}
use Rattle.std.specs.BTreeMap as tree
use Rattle.std.specs.Option.{option_map_or}
use Rattle.std.specs.Ordering.{nat_cmp}
use Rattle.std.specs.Prelude.{Some, OnErr, OnOk, Result, Ok, Err, String, if◌then◌else◌, string_bytes}
use Rattle.std.specs.Result.{is_ok}
use Rattle.std.specs.declared.alloc.Global.{Global}
use Rattle.span_fmt.specs.Known.{known_in}
use Rattle.span_fmt.specs.declared.known.Known.{Known}
use Rattle.std.proofs.Common.{◌≡◌, ◌≢◌, ◌∙◌, ℕ, Bool, true, false, IsTrue, List, [], ◌∷◌, ◌++◌, arith, not, refl, sym}
use Rattle.std.proofs.Math.Bool.{cond}
use Rattle.std.proofs.lemmas.Bool.{true≢false}
use Rattle.std.proofs.lemmas.Bool.Decides.{nat_tests}
use Rattle.std.proofs.lemmas.List.{append-nil}
use Rattle.std.specs.Borrow.{Bor}
use Rattle.std.specs.List.{list_all}
use Rattle.std.specs.Prelude.{◌&&◌, flat_map}
use Rattle.span_core.specs.Field.{is_absent, present}
use Rattle.span_core.specs.declared.field.FieldValue.{FieldValue}
use Rattle.span_fmt.specs.Known.{SpanTexts, with_text, with_values}
use Rattle.span_fmt.specs.Text.{field_text, fields_text}

abbrev Fields : Type 0
Fields = List (Bor (List ℕ) × FieldValue)

-- a test tells whether there are no fields
abbrev Tells : Bool → Fields → Type 0
Tells b fields = (IsTrue b → fields ≡ []) × (fields ≡ [] → IsTrue b)

one_told : (a b : Bool) (f : Bor (List ℕ) × FieldValue) (rest : Fields) → Tells b rest → Tells (a && b) (cond (not a) (f ∷ rest) rest)
one_told true b f rest h = h
one_told false b f rest h = (λ t. cc, λ e. cc)

-- no field has a value where each is absent
pub absent_told : (values : Fields) → Tells (list_all (λ f. is_absent f.1) values) (present values)
absent_told [] = (λ t. refl, λ e. refl)
absent_told (f ∷ fs) = one_told (is_absent f.1) (list_all (λ f. is_absent f.1) fs) f (present fs) (absent_told fs)

-- where it says that there are some, there are
pub some_present : {b : Bool} {fields : Fields} → Tells b fields → b ≡ false → fields ≢ []
some_present h is none = true≢false (sym (h.1 none) ∙ is)

filled : (fields : Fields) → fields ≢ [] → flat_map (λ f. field_text f.0.now f.1) fields ≢ []
filled [] some none = some refl
filled (f ∷ fs) some none = cc

-- where a field has a value, there is a text
pub fields_filled : (values : Fields) → present values ≢ [] → fields_text values ≢ []
fields_filled values some = filled (present values) some

-- a span that is given no text is known as before
as_before : (x n : ℕ) (known : SpanTexts) → known n ≡ with_text x (known x ++ []) known n
as_before x n known = grind (arith, nat_tests, append-nil)

-- so is one that is given fields of which none has a value
pub none_noted : (x : ℕ) (values : Fields) (known : SpanTexts) → present values ≡ [] → known ≡ with_values x values known
none_noted x values known none = rw none (λ i n. as_before x n known i)

-- a map of texts in which one is another now, and the rest are as they were
pub updated : (k n : Known) (x : ℕ) (w : String Global) → tree.UpdatesBy nat_cmp (nat_cmp x) k.texts n.texts (Some w)
    → known_in n ≡ with_text x (string_bytes w) (known_in k)
updated k n x w h = λ i q. one q i
  where
    one : (q : ℕ) → known_in n q ≡ with_text x (string_bytes w) (known_in k) q
    one q = search rules

-- a text that is written over itself
as_was : (x n : ℕ) (known : SpanTexts) → with_text x (known x) known n ≡ known n
as_was x n known = grind (arith, nat_tests)

module _ (k n : Known) (x y : ℕ) (was now : String Global) (added : List ℕ) (same : y ≡ x)
    (there : Some was ≡ tree.get_by (nat_cmp y) k.texts) (written : tree.UpdatesBy nat_cmp (nat_cmp y) k.texts n.texts (Some now)) where
  -- the text that is there is what is known
  here : string_bytes was ≡ known_in k y
  here = ap (λ o. option_map_or string_bytes o []) there

  -- where the text grows, these values are known too
  pub grown : {U E : Type 0} (r : Result U E) (values : Fields) → string_bytes now ≡ (if is_ok r then string_bytes was ++ added else string_bytes was)
      → added ≡ fields_text values → OnOk r (known_in n ≡ with_values x values (known_in k))
  grown (Err e) values bytes text = tt
  grown (Ok u) values bytes text = subst (λ z. known_in n ≡ with_values z values (known_in k)) same
      (updated k n y now written
      ∙ ap (λ t. with_text y t (known_in k)) (bytes ∙ ap (λ b. b ++ added) here ∙ ap (λ a. known_in k y ++ a) text))

  -- where it doesn't, what was known is
  pub kept : {U E : Type 0} (r : Result U E) → string_bytes now ≡ (if is_ok r then string_bytes was ++ added else string_bytes was)
      → OnErr r (known_in n ≡ known_in k)
  kept (Ok u) bytes = tt
  kept (Err e) bytes = updated k n y now written ∙ ap (λ t. with_text y t (known_in k)) (bytes ∙ here) ∙ (λ i q. as_was y q (known_in k) i)
