-- The values of a span by their tags, and the types that a value may have.
use Rattle.std.specs.Prelude.{◌≡◌, ℕ, Box, ◌+◌, IsSome, None, Option, Some}
use Rattle.std.specs.FinMap.{FinMap, get}
use Rattle.std.specs.Ordering.{nat_cmp}
use Rattle.std.specs.declared.alloc.Global.{Global}
use Rattle.std.specs.FinMap as map
use Rattle.span_core.specs.declared.error.TraceError.TheVariants.{TagTaken, OutOfMemory}
use Rattle.span_core.specs.declared.error.TraceError.{TraceError}
use Rattle.span_extensions.specs.declared.extension_tables.ExtensionTables.{ExtensionTables}
use Rattle.span_extensions.specs.declared.tag.Tag.{Tag}

-- the values of a span, by the numbers of their tags: a finite map for each type that a value may
-- have
abbrev pub ExtensionMap : Type 0
ExtensionMap = ExtensionTables

-- the number of a tag
abbrev pub tag_number : {T : Type 0} → Tag T → ℕ
tag_number t = t.number

-- the types that a value may have
pub data ValueType : Type 0 where
  Unsigned : ValueType
  Signed : ValueType
  Flag : ValueType
  Text : ValueType
  Bytes : ValueType
  NumberList : ValueType

-- where the values of one type stand: how they are read, and the map with others in their place
pub record Place (T : Type 0) : Type 0 where
  pub values : ExtensionMap → FinMap nat_cmp T
  pub with_values : ExtensionMap → FinMap nat_cmp T → ExtensionMap

-- two maps have the same under the tag of this type with this number
abbrev pub SameAt : ValueType → ℕ → ExtensionMap → ExtensionMap → Type 0
SameAt Unsigned k m n = get m.unsigned_numbers k ≡ get n.unsigned_numbers k
SameAt Signed k m n = get m.signed_numbers k ≡ get n.signed_numbers k
SameAt Flag k m n = get m.flags k ≡ get n.flags k
SameAt Text k m n = get m.texts k ≡ get n.texts k
SameAt Bytes k m n = get m.bytes k ≡ get n.bytes k
SameAt NumberList k m n = get m.number_lists k ≡ get n.number_lists k

-- two tags are the same: their types and their numbers are
abbrev pub SameTag : {T U : Type 0} → ValueType → Tag T → ValueType → Tag U → Type 0
SameTag type tag other_type other = (type ≡ other_type) × (tag_number tag ≡ tag_number other)

-- extensions without a value under any tag
abbrev pub no_values : ExtensionMap
no_values = record {
  unsigned_numbers = map.empty;
  signed_numbers = map.empty;
  flags = map.empty;
  texts = map.empty;
  bytes = map.empty;
  number_lists = map.empty;
}

-- the values that these tables hold: none where there are no tables
abbrev pub tabled : Option (Box ExtensionTables Global) → ExtensionMap
tabled None = no_values
tabled (Some b) = b.value

-- how many values there are, of all types
abbrev pub value_count : ExtensionMap → ℕ
value_count m =
    map.len m.unsigned_numbers + map.len m.signed_numbers + map.len m.flags + map.len
    m.texts + map.len m.bytes + map.len m.number_lists

-- the value under a tag
abbrev pub value_under : {T : Type 0} → Place T → ExtensionMap → Tag T → Option T
value_under place m tag = map.get (place.values m) (tag_number tag)

-- the map with this value under the tag
abbrev pub with_value : {T : Type 0} → Place T → ExtensionMap → Tag T → T → ExtensionMap
with_value place m tag v = place.with_values m (map.insert (place.values m) (tag_number tag) v)

-- the map with no value under the tag
abbrev pub without_value : {T : Type 0} → Place T → ExtensionMap → Tag T → ExtensionMap
without_value place m tag = place.with_values m (map.remove (place.values m) (tag_number tag))

-- a value is put under a tag that had none
pub record Inserts {T : Type 0} (place : Place T) (tag : Tag T) (v : T)
    (old new : ExtensionMap) : Type 0 where
  pub vacant : value_under place old tag ≡ None
  pub state : new ≡ with_value place old tag v

-- why a value isn't inserted: the tag has one, else memory
abbrev pub RefusesInsert : {T : Type 0} → Place T → ExtensionMap → Tag T → TraceError → Type 0
RefusesInsert place m tag TagTaken = IsSome (value_under place m tag)
RefusesInsert place m tag OutOfMemory = value_under place m tag ≡ None
RefusesInsert place m tag other = ⊥

-- why a value isn't replaced: memory, and that only where the tag had none
abbrev pub RefusesReplace : {T : Type 0} → Place T → ExtensionMap → Tag T → TraceError → Type 0
RefusesReplace place m tag OutOfMemory = value_under place m tag ≡ None
RefusesReplace place m tag other = ⊥
