-- Fields that are found among those that have a value.
use Rattle.std.proofs.Common.{◌≡◌, ◌∙◌, ℕ, Bool, true, false, List, [], ◌∷◌, Option, None, Some, ap, not, refl}
use Rattle.std.proofs.Math.Bool.{cond}
use Rattle.std.specs.Borrow.{Bor}
use Rattle.std.specs.Prelude.{◌&&◌, bytes_eq, filter, find, option_map}
use Rattle.span_core.specs.Field.{is_absent}
use Rattle.span_core.specs.declared.field.FieldValue.{FieldValue}
use Rattle.span_log.specs.Record.{value_under}

abbrev Field : Type 0
Field = Bor (List ℕ) × FieldValue

kept_found : {X : Type 0} (p : X → Bool) (b : Bool) (x : X) (xs : List X) (r : Option X)
    → r ≡ find p xs → cond (b && p x) (Some x) r ≡ find p (cond b (x ∷ xs) xs)
kept_found p true x xs r h = ap (cond (p x) (Some x)) h
kept_found p false x xs r h = h

-- what passes two tests is found in what passes the first
found_in_kept : {X : Type 0} (q p : X → Bool) (xs : List X) → find (λ x. q x && p x) xs ≡ find p (filter q xs)
found_in_kept q p [] = refl
found_in_kept q p (x ∷ xs) = kept_found p (q x) x (filter q xs) (find (λ x. q x && p x) xs) (found_in_kept q p xs)

value_of : (r : Option (Bor Field)) → option_map (λ x. x.now.1) r ≡ option_map (λ (f : Field). f.1) (option_map (λ x. x.now) r)
value_of None = refl
value_of (Some x) = refl

-- the value of what is found is the first under its name
pub value_found : (name : List ℕ) (values : List Field) (r : Option (Bor Field))
    → option_map (λ x. x.now) r ≡ find (λ f. not (is_absent f.1) && bytes_eq f.0.now name) values → option_map (λ x. x.now.1) r ≡ value_under values name
value_found name values r h =
    value_of r ∙ ap (option_map (λ (f : Field). f.1)) (h ∙ found_in_kept (λ f. not (is_absent f.1)) (λ f. bytes_eq f.0.now name) values)
