-- Texts that are kept in extensions, and fields without a value.
use Rattle.std.proofs.Common.{◌≡◌, ◌∙◌, inr, ℕ, Bool, true, false, cond, IsTrue, List, [], ◌∷◌, ◌++◌, Option, Some, not, refl, sym, ap}
use Rattle.std.proofs.Common.{string_bytes}
use Rattle.std.specs.Borrow.{Bor}
use Rattle.std.specs.Cmp.{eq_by_cmp_equiv, nat_cmp_total}
use Rattle.std.specs.FinMap.{FinMap, get, get-insert, insert}
use Rattle.std.specs.List.{list_all}
use Rattle.std.specs.Option.{option_map_or}
use Rattle.std.specs.Ordering.{nat_cmp}
use Rattle.std.specs.Prelude.{◌&&◌, flat_map}
use Rattle.std.specs.declared.alloc.Global.{Global}
use Rattle.std.specs.declared.string.String.{String}
use Rattle.span_core.specs.Field.{is_absent, present}
use Rattle.span_core.specs.declared.field.FieldValue.{FieldValue}
use Rattle.span_error.specs.Kept.{Keeps, fields_number, kept_text, with_kept}
use Rattle.span_extensions.specs.Extensions.{Place}
use Rattle.span_extensions.specs.declared.extensions.ExtensionMap.{ExtensionMap}
use Rattle.span_fmt.specs.Text.{field_text}

get_inserted : {X : Type 0} (m : FinMap nat_cmp X) (k : ℕ) (v : X) → get (insert m k v) k ≡ Some v
get_inserted m k v = get-insert nat_cmp_total m k v k ∙ ap (λ b. cond b (Some v) (get m k)) ((eq_by_cmp_equiv nat_cmp_total).refl k)

-- where texts stand among a span's values
abbrev pub text_place : Place (String Global)
text_place = record { values = λ m. m.texts; with_values = λ m t. record m { texts = t } }

module _ (texts : Place (String Global)) where
  -- what is written is read
  kept_written : ((m : ExtensionMap) (t : FinMap nat_cmp (String Global)) → texts.values (texts.with_values m t) ≡ t)
      → (m : ExtensionMap) (t : String Global) → kept_text texts (with_kept texts m t) ≡ string_bytes t
  kept_written law m t =
      ap (λ (o : Option (String Global)). option_map_or string_bytes o [])
      (ap (λ (w : FinMap nat_cmp (String Global)). get w fields_number) (law m _) ∙ get_inserted (texts.values m) fields_number t)

  -- where there is a text of fields, it is kept
  pub keeps_text : ((m : ExtensionMap) (t : FinMap nat_cmp (String Global)) → texts.values (texts.with_values m t) ≡ t)
      → (m n : ExtensionMap) (t : String Global) (given : List ℕ)
      → string_bytes t ≡ kept_text texts m ++ given → n ≡ with_kept texts m t → Keeps texts given m n
  keeps_text law m n t given bytes is = record {
    text = ap (kept_text texts) is ∙ kept_written law m t ∙ bytes;
    rest = inr (t, is);
  }

abbrev Fields : Type 0
Fields = List (Bor (List ℕ) × FieldValue)

abbrev text_of_present : Fields → List ℕ
text_of_present fields = flat_map (λ f. field_text f.0.now f.1) fields

-- a test tells whether these fields have no text
abbrev Tells : Bool → Fields → Type 0
Tells b fields = (IsTrue b → text_of_present fields ≡ []) × (text_of_present fields ≡ [] → IsTrue b)

one_told : (a b : Bool) (f : Bor (List ℕ) × FieldValue) (rest : Fields) → Tells b rest → Tells (a && b) (cond (not a) (f ∷ rest) rest)
one_told true b f rest h = h
one_told false b f rest h = (λ t. cc, λ e. cc)

-- fields have no text exactly where each is absent
pub absent_told : (values : Fields) → Tells (list_all (λ f. is_absent f.1) values) (present values)
absent_told [] = (λ t. refl, λ e. refl)
absent_told (f ∷ fs) = one_told (is_absent f.1) (list_all (λ f. is_absent f.1) fs) f (present fs) (absent_told fs)
