-- Fields that are kept, one by one.
use Rattle.std.proofs.Common.{◌≡◌, ◌≢◌, ◌∙◌, ◌<◌, ◌+◌, ℕ, zero, suc, arith, List, [], ◌∷◌, ◌++◌, Option, None, Some, ap, append_assoc, get_or, length, refl}
use Rattle.std.proofs.Common.{sym, take}
use Rattle.std.specs.Borrow.{Bor}
use Rattle.std.specs.List.{cons_option}
use Rattle.std.specs.Option.{option_map, option_to_list}
use Rattle.std.proofs.Math.Seq.{take-append_seam}
use Rattle.std.proofs.lemmas.List.{length-map, take-map, take_more}
use Rattle.std.proofs.lemmas.List.Elements.{filter_map-append}
use Rattle.span_core.specs.declared.field.FieldValue.{FieldValue}
use Rattle.span_times.specs.Field.{FieldSaid, Said, field_said, fields_said, kept_in, one_said, said_of}
use Rattle.span_times.specs.declared.field.OwnedField.{OwnedField}

-- what was kept behind these is cut off
pub cut_back : (xs olds : List OwnedField) (more : List FieldSaid) (n : ℕ)
    → n ≡ length olds → kept_in xs ≡ kept_in olds ++ more → kept_in (take n xs) ≡ kept_in olds
cut_back xs olds more n long grown =
    sym (take-map field_said n xs) ∙ ap (take n) grown
    ∙ ap (λ (k : ℕ). take k (kept_in olds ++ more)) (long ∙ sym (length-map olds field_said)) ∙ take-append_seam (kept_in olds) more

one_more : (f : Bor (List ℕ) × FieldValue) (o : Option FieldSaid) → one_said f ≡ o → fields_said (f ∷ []) ≡ option_to_list o
one_more f None e = ap (λ o. cons_option o []) e
one_more f (Some s) e = ap (λ o. cons_option o []) e

-- one more field is kept, if it has a value
pub field_more : (values : List (Bor (List ℕ) × FieldValue)) (i : ℕ) (d : Bor (List ℕ) × FieldValue) (old now new : List FieldSaid)
    → i < length values → now ≡ old ++ fields_said (take i values) → new ≡ now ++ option_to_list (one_said (get_or values i d))
    → new ≡ old ++ fields_said (take (i + 1) values)
field_more values i d old now new within so_far grown =
    let f = get_or values i d in
    let before = fields_said (take i values) in
    grown ∙ ap (λ fs. fs ++ option_to_list (one_said f)) so_far ∙ append_assoc old before (option_to_list (one_said f))
    ∙ ap (λ fs. old ++ fs)
    (ap (λ fs. before ++ fs) (sym (one_more f (one_said f) refl)) ∙ sym (filter_map-append one_said (take i values) (f ∷ []))
    ∙ sym (ap fields_said (take_more values i d within)))

some_said : (f : Bor (List ℕ) × FieldValue) (o : Option Said) (fs : List FieldSaid) → o ≢ None → cons_option (option_map (λ s. (f.0.now, s)) o) fs ≢ []
some_said f None fs h = λ e. h refl
some_said f (Some s) fs h = λ e. cc

none_said : (o : Option FieldSaid) (fs : List FieldSaid) → fs ≢ [] → cons_option o fs ≢ []
none_said None fs h = h
none_said (Some s) fs h = λ e. cc

-- where one has a value, there is something to keep
pub has_some : (values : List (Bor (List ℕ) × FieldValue)) (i : ℕ) (d : Bor (List ℕ) × FieldValue)
    → i < length values → said_of (get_or values i d).1 ≢ None → fields_said values ≢ []
has_some [] i d within h = absurd (omega (arith, within))
has_some (f ∷ fs) zero d within h = some_said f (said_of f.1) (fields_said fs) h
has_some (f ∷ fs) (suc i) d within h = none_said (one_said f) (fields_said fs) (has_some fs i d (omega (arith, within)) h)
