-- Where a span has no tables, no tag has a value.
use Rattle.std.specs.Prelude.{◌≡◌, ℕ, ℤ, Box, Bool, true, false, cond, Option, None}
use Rattle.std.specs.Cmp.{nat_cmp_total}
use Rattle.std.specs.FinMap.{FinMap, empty, get, get-empty, get-remove, len-empty, remove, same_map, nat_cmp-IsAntisymmetric}
use Rattle.std.specs.Ordering.{nat_cmp, eq_by_cmp}
use Rattle.std.proofs.Common.{Vec, Global, String, arith, refl, sym, ap, ◌∙◌}
use Rattle.span_extensions.specs.Extensions.{ExtensionMap, Place, no_values, tabled, tag_number, value_count, value_under, without_value}
use Rattle.span_extensions.specs.declared.extension_tables.ExtensionTables.{ExtensionTables}
use Rattle.span_extensions.specs.declared.tag.Tag.{Tag}

-- without tables no value is seen
pub untabled : (o : Option (Box ExtensionTables Global)) (m : ExtensionMap) → tabled o ≡ m → o ≡ None → m ≡ no_values
untabled o m seen none = sym seen ∙ ap tabled none

pub counts_none : value_count no_values ≡ 0
counts_none =
    omega (arith, len-empty nat_cmp ℕ, len-empty nat_cmp ℤ, len-empty nat_cmp Bool, len-empty nat_cmp (String Global), len-empty nat_cmp (Vec ℕ Global))

module _ {T : Type 0} where
  neither : (b : Bool) (o : Option T) → o ≡ None → cond b None o ≡ o
  neither true o none = sym none
  neither false o none = refl

  remove_none : (k : ℕ) → remove (empty {X = T} {R = nat_cmp}) k ≡ empty
  remove_none k = same_map nat_cmp_total
      nat_cmp-IsAntisymmetric _ _ (λ q. get-remove nat_cmp_total empty k q ∙ neither (eq_by_cmp nat_cmp q k) (get empty q) (get-empty nat_cmp q))

  module _ (place : Place T) (begins : place.values no_values ≡ empty) (m : ExtensionMap) (tag : Tag T) (none : m ≡ no_values) where
    pub none_under : value_under place m tag ≡ None
    none_under = ap (λ (m : ExtensionMap). value_under place m tag) none
        ∙ ap (λ (v : FinMap nat_cmp T). get v (tag_number tag)) begins ∙ get-empty nat_cmp (tag_number tag)

    pub none_taken : place.with_values no_values (place.values no_values) ≡ no_values → without_value place m tag ≡ m
    none_taken own =
        ap (λ (m : ExtensionMap). without_value place m tag) none
        ∙ ap (λ (v : FinMap nat_cmp T). place.with_values no_values (remove v (tag_number tag))) begins
        ∙ ap (place.with_values no_values) (remove_none (tag_number tag) ∙ sym begins)
        ∙ own ∙ sym none
