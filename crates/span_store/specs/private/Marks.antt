-- How a stack marks the entries that are duplicates, and keeps its distinct spans.
use Rattle.std.specs.Prelude.{◌≡◌, ℕ, ◌<◌, ◌≤◌, ◌+◌, List, [], ◌∷◌, map, reverse, length, drop, slice_index_or, false, true, Option, None, Some}
use Rattle.span_core.specs.Span.{number_of}
use Rattle.span_core.specs.declared.error.TraceError.TheVariants.{OutOfMemory}
use Rattle.span_core.specs.declared.error.TraceError.{TraceError}
use Rattle.span_core.specs.declared.span.Id.{Id}
use Rattle.span_store.specs.private.Bloom.{MayHold}
use Rattle.span_store.specs.LaneStack.{HeldStack, stands, without_duplicates}
use Rattle.span_store.specs.declared.bloom.Bloom.{Bloom}
use Rattle.span_store.specs.declared.stack.Entry.{Entry}

-- the spans of the entries
abbrev pub ids : List Entry → List ℕ
ids es = map (λ e. number_of e.id) es

-- the spans of the entries, newest first
abbrev pub ids_down : List Entry → List ℕ
ids_down es = ids (reverse es)

-- newest first: an entry is marked where its span stands below it
abbrev pub AreMarkedDown : List Entry → Type 0
AreMarkedDown [] = Unit {0}
AreMarkedDown (e ∷ es) = (e.duplicate ≡ stands (number_of e.id) (ids es)) × AreMarkedDown es

-- oldest first: an entry is marked where its span stands before it
abbrev pub AreMarked : List Entry → Type 0
AreMarked es = AreMarkedDown (reverse es)

-- the filter may hold each of these spans
abbrev pub HoldsAll : Bloom → List ℕ → Type 0
HoldsAll b xs = (x : ℕ) → stands x xs ≡ true → MayHold b x

-- newest first: each entry's filter may hold all that stand below it
abbrev pub HoldBelow : List Entry → Type 0
HoldBelow [] = Unit {0}
HoldBelow (e ∷ es) = HoldsAll e.before (ids es) × HoldBelow es

-- what the entries of a stack keep true: their marks are right, the filter may hold each of their
-- spans, and that of each entry those before it
pub record KeepsEntries (es : List Entry) (b : Bloom) : Type 0 where
  pub marked : AreMarked es
  pub held : HoldsAll b (ids es)
  pub before : HoldBelow (reverse es)

-- the numbers of these spans, the last one first
abbrev pub numbers_down : List Id → List ℕ
numbers_down xs = map number_of (reverse xs)

-- the distinct spans of a stack are those of its entries, duplicates left out
abbrev pub KeepsDistinct : List ℕ → List Id → Type 0
KeepsDistinct entered distinct = numbers_down distinct ≡ without_duplicates entered

-- the place of the last entry of x
pub record IsLastOf (es : List Entry) (x i : ℕ) : Type 0 where
  pub within : i < length es
  pub there : (d : Entry) → number_of (slice_index_or es i d).id ≡ x
  pub apart : stands x (ids (drop (i + 1) es)) ≡ false

-- the place of the last entry of x, if there is one
abbrev pub IsAtLast : List Entry → ℕ → Option ℕ → Type 0
IsAtLast es x None = stands x (ids es) ≡ false
IsAtLast es x (Some i) = IsLastOf es x i

-- the last place of x among these
pub record IsLastIdOf (xs : List Id) (x i : ℕ) : Type 0 where
  pub within : i < length xs
  pub there : (d : Id) → number_of (slice_index_or xs i d) ≡ x
  pub apart : stands x (map number_of (drop (i + 1) xs)) ≡ false

-- the last place of x, if there is one
abbrev pub IsAtLastId : List Id → ℕ → Option ℕ → Type 0
IsAtLastId xs x None = stands x (map number_of xs) ≡ false
IsAtLastId xs x (Some i) = IsLastIdOf xs x i

-- memory for one more entry is refused, and there is no room for it
abbrev pub WantsEntry : HeldStack → TraceError → Type 0
WantsEntry s e = (e ≡ OutOfMemory) × (s.room ≤ length s.spans)

-- memory for so many entries is refused, and there isn't room for as many
abbrev pub WantsRoom : ℕ → HeldStack → TraceError → Type 0
WantsRoom depth s e = (e ≡ OutOfMemory) × (s.room < depth)
