-- A write of the values of one type leaves the values of the others.
use Rattle.std.specs.Prelude.{◌≡◌, ℕ, ℤ, Bool, refl}
use Rattle.std.specs.FinMap.{FinMap, get}
use Rattle.std.specs.Ordering.{nat_cmp}
use Rattle.std.specs.declared.alloc.Global.{Global}
use Rattle.std.specs.declared.string.String.{String}
use Rattle.std.specs.declared.vec.Vec.{Vec}
use Rattle.span_extensions.specs.Extensions.{Bytes, ExtensionMap, Flag, NumberList, SameAt, Signed, Text, Unsigned, ValueType}

-- new unsigned numbers change the map only under the tags of their type that they change
pub writes_unsigned : (m : ExtensionMap) (t : FinMap nat_cmp ℕ) (s : ValueType) (k : ℕ)
    → (s ≡ Unsigned → get m.unsigned_numbers k ≡ get t k)
    → SameAt s k m (record m { unsigned_numbers = t })
writes_unsigned m t Unsigned k h = h refl
writes_unsigned m t other k h = refl

-- new signed numbers change the map only under the tags of their type that they change
pub writes_signed : (m : ExtensionMap) (t : FinMap nat_cmp ℤ) (s : ValueType) (k : ℕ)
    → (s ≡ Signed → get m.signed_numbers k ≡ get t k)
    → SameAt s k m (record m { signed_numbers = t })
writes_signed m t Signed k h = h refl
writes_signed m t other k h = refl

-- new flags change the map only under the tags of their type that they change
pub writes_flag : (m : ExtensionMap) (t : FinMap nat_cmp Bool) (s : ValueType) (k : ℕ)
    → (s ≡ Flag → get m.flags k ≡ get t k) → SameAt s k m (record m { flags = t })
writes_flag m t Flag k h = h refl
writes_flag m t other k h = refl

-- new texts change the map only under the tags of their type that they change
pub writes_text : (m : ExtensionMap) (t : FinMap nat_cmp (String Global)) (s : ValueType) (k : ℕ)
    → (s ≡ Text → get m.texts k ≡ get t k) → SameAt s k m (record m { texts = t })
writes_text m t Text k h = h refl
writes_text m t other k h = refl

-- new bytes change the map only under the tags of their type that they change
pub writes_bytes : (m : ExtensionMap) (t : FinMap nat_cmp (Vec ℕ Global)) (s : ValueType) (k : ℕ)
    → (s ≡ Bytes → get m.bytes k ≡ get t k) → SameAt s k m (record m { bytes = t })
writes_bytes m t Bytes k h = h refl
writes_bytes m t other k h = refl

-- new number lists change the map only under the tags of their type that they change
pub writes_number_list : (m : ExtensionMap) (t : FinMap nat_cmp (Vec ℕ Global)) (s : ValueType)
    (k : ℕ) → (s ≡ NumberList → get m.number_lists k ≡ get t k)
    → SameAt s k m (record m { number_lists = t })
writes_number_list m t NumberList k h = h refl
writes_number_list m t other k h = refl
