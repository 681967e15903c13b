-- How an index counts the entries of a stack.
use Rattle.std.specs.HashMap.{get}
use Rattle.std.specs.List.{count_by}
use Rattle.std.specs.Prelude.{◌≡◌, ℕ, List, Option, Some, None, IfSome, nat_eq}
use Rattle.span_store.specs.declared.index.Index.{Index}
use Rattle.span_store.specs.declared.index.Posting.{Posting}
use Rattle.span_store.specs.declared.index.Table.{Table}

-- how often x stands in these
abbrev pub times : ℕ → List ℕ → ℕ
times x xs = count_by (nat_eq x) xs

-- how many entries are counted of a span
abbrev pub counted : Option Posting → ℕ
counted None = 0
counted (Some p) = p.count

-- the table counts each span as often as it stands in these
abbrev pub Counts : Table → List ℕ → Type 0
Counts t xs = (x : ℕ) → counted (get nat_eq t.postings x) ≡ times x xs

-- the table, if there is one, counts these
abbrev pub Indexes : Index → List ℕ → Type 0
Indexes i xs = IfSome i.table (λ t. Counts t xs)
