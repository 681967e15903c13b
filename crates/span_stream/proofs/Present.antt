-- Fields that have a value, and those that have none.
use Rattle.std.proofs.Common.{◌≡◌, ◌≢◌, ◌∙◌, ℕ, Bool, true, false, IsTrue, List, [], ◌∷◌, Result, Ok, Err, arith, ap, not, refl, sym}
use Rattle.std.proofs.Math.Bool.{cond}
use Rattle.std.proofs.lemmas.Bool.{true≢false}
use Rattle.std.proofs.lemmas.Bool.Decides.{nat_tests}
use Rattle.std.specs.Borrow.{Bor}
use Rattle.std.specs.List.{list_all}
use Rattle.std.specs.Prelude.{◌&&◌, OnErr, if◌then◌else◌}
use Rattle.serde_json.specs.Data.{Members, put}
use Rattle.span_core.specs.Field.{is_absent, present}
use Rattle.span_core.specs.declared.field.FieldValue.{FieldValue}
use Rattle.span_stream.specs.Members.{SpanMembers, with_members}
use Rattle.span_stream.specs.Values.{value_data, with_values}

abbrev Fields : Type 0
Fields = List (Bor (List ℕ) × FieldValue)

-- a test tells whether there are no fields
abbrev Tells : Bool → Fields → Type 0
Tells b fields = (IsTrue b → fields ≡ []) × (fields ≡ [] → IsTrue b)

one_told : (a b : Bool) (f : Bor (List ℕ) × FieldValue) (rest : Fields) → Tells b rest → Tells (a && b) (cond (not a) (f ∷ rest) rest)
one_told true b f rest h = h
one_told false b f rest h = (λ t. cc, λ e. cc)

-- no field has a value where each is absent
pub absent_told : (values : Fields) → Tells (list_all (λ f. is_absent f.1) values) (present values)
absent_told [] = (λ t. refl, λ e. refl)
absent_told (f ∷ fs) = one_told (is_absent f.1) (list_all (λ f. is_absent f.1) fs) f (present fs) (absent_told fs)

-- where it says that there are some, there are
pub some_present : {b : Bool} {fields : Fields} → Tells b fields → b ≡ false → fields ≢ []
some_present h is none = true≢false (sym (h.1 none) ∙ is)

-- where some are present, it may be said of any refusal
pub refused_with : {T E : Type 0} {b : Bool} {fields : Fields} (r : Result T E) → Tells b fields → b ≡ false → OnErr r (fields ≢ [])
refused_with (Ok v) h is = tt
refused_with (Err e) h is = some_present h is

one_less : (b : Bool) (f : Bor (List ℕ) × FieldValue) (fs rest : Fields) (ms more : Members)
    → ((ns : Members) → rest ≡ [] → with_values fs ns ≡ ns) → cond (not b) (f ∷ rest) rest ≡ [] → with_values fs (if b then ms else more) ≡ ms
one_less true f fs rest ms more h none = h ms none
one_less false f fs rest ms more h none = absurd (cc)

none_more : (fs : Fields) (ms : Members) → present fs ≡ [] → with_values fs ms ≡ ms
none_more [] ms none = refl
none_more (f ∷ fs) ms none = one_less (is_absent f.1) f fs (present fs) ms (put f.0.now (value_data f.1) ms) (none_more fs) none

as_was : (x n : ℕ) (kept : SpanMembers) → kept n ≡ with_members x (kept x) kept n
as_was x n kept = grind (arith, nat_tests)

-- a span that is given fields of which none has a value keeps its values
pub none_added : (x : ℕ) (fs : Fields) (kept : SpanMembers) → present fs ≡ [] → kept ≡ with_members x (with_values fs (kept x)) kept
none_added x fs kept none = (λ i n. as_was x n kept i) ∙ ap (λ (ms : Members). with_members x ms kept) (sym (none_more fs (kept x) none))
