-- What a span's extensions end as where a `&mut` into them is returned.
use Rattle.std.specs.Prelude.{◌≡◌, ℕ, Option}
use Rattle.std.specs.Borrow.{Fml, Lends, LendsSo, MutBor, RattleType}
use Rattle.std.specs.FinMap.{FinMap, insert}
use Rattle.std.specs.Option.{OnSome}
use Rattle.std.specs.Ordering.{nat_cmp}
use Rattle.span_extensions.specs.Extensions.{with_value, Place}
use Rattle.span_extensions.specs.contracts.extension_tables.ExtensionTables.{the_row as tables_row}
use Rattle.span_extensions.specs.contracts.extensions.ExtensionMap.{the_row as map_row}
use Rattle.span_extensions.specs.contracts.table.Table.{the_row as table_row}
use Rattle.span_extensions.specs.declared.extensions.ExtensionMap.{ExtensionMap}
use Rattle.span_extensions.specs.declared.tag.Tag.{Tag}

-- once the borrow r ends, the tag has the value that r had last; at `None` the extensions stay as
-- they are
abbrev pub lends_value : (T : RattleType) → Place T.Denot → MutBor ExtensionMap → Tag T.Denot
    → Option (MutBor T.Denot) → Fml
lends_value T place s tag r =
    LendsSo map_row T s r (λ n w. OnSome r (n ≡ with_value place s.now tag w)) (λ n. n ≡ s.now)

-- once the borrow r ends, the tables that hold the extensions have the value that r had last under
-- the tag; at `None` they stay as they are
abbrev pub lends_tabled : (T : RattleType) → Place T.Denot → MutBor ExtensionMap → Tag T.Denot
    → Option (MutBor T.Denot) → Fml
lends_tabled T place s tag r =
    LendsSo tables_row T s r (λ n w. OnSome r (n ≡ with_value place s.now tag w)) (λ n. n ≡ s.now)

-- once the borrow r ends, the table has the value that r had last under the number of a tag; at
-- `None` it stays as it is
abbrev pub lends_entry : (T : RattleType) → MutBor (FinMap nat_cmp T.Denot) → ℕ
    → Option (MutBor T.Denot) → Fml
lends_entry T s n r =
    LendsSo (table_row T) T s r (λ m w. OnSome r (m ≡ insert s.now n w)) (λ m. m ≡ s.now)

-- once the borrow r ends, the extensions have the values of one type that r had last
abbrev pub lends_table : (T : RattleType) → Place T.Denot → MutBor ExtensionMap
    → MutBor (FinMap nat_cmp T.Denot) → Fml
lends_table T place s r = Lends tables_row (table_row T) s r (place.with_values s.now)
