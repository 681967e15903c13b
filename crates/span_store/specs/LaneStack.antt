-- The stack of a lane: the spans entered and not left yet, newest first.
use Rattle.std.specs.Prelude.{ℕ, max, Bool, nat_eq, ◌&&◌, not, List, [], ◌∷◌, map, reverse, Option, Some, None, if◌then◌else◌}
use Rattle.std.specs.List.{list_any}
use Rattle.span_core.specs.Span.{number_of}
use Rattle.span_store.specs.declared.stack.StackIter.{StackIter}

-- a stack with the room for it: for how many entries there is memory, whether they are there or not
pub record HeldStack : Type 0 where
  pub spans : List ℕ
  pub room : ℕ

-- a lane's stack without entries, and without room
abbrev pub no_entries : HeldStack
no_entries = record { spans = []; room = 0 }

-- the span stands on the stack
abbrev pub stands : ℕ → List ℕ → Bool
stands x xs = list_any (nat_eq x) xs

-- the stack without the newest entry of x
abbrev pub leave : ℕ → List ℕ → List ℕ
leave x [] = []
leave x (y ∷ ys) = if nat_eq x y then ys else (y ∷ leave x ys)

-- the entries that are no duplicates: of each span the oldest
abbrev pub without_duplicates : List ℕ → List ℕ
without_duplicates [] = []
without_duplicates (x ∷ xs) =
    if stands x xs then without_duplicates xs else (x ∷ without_duplicates xs)

-- the newest entry that is no duplicate
abbrev pub last_entered : List ℕ → Option ℕ
last_entered [] = None
last_entered (x ∷ xs) = if stands x xs then last_entered xs else Some x

-- the newest entry of x is no duplicate, so leaving x leaves it for good
abbrev pub leaves_for_good : ℕ → List ℕ → Bool
leaves_for_good x xs = stands x xs && not (stands x (leave x xs))

-- the newest entry
abbrev pub newest : List ℕ → Option ℕ
newest [] = None
newest (x ∷ xs) = Some x

-- the stack with an entry of x in front
abbrev pub with_entry : ℕ → HeldStack → HeldStack
with_entry x s = record s { spans = x ∷ s.spans }

-- the stack without the newest entry of x
abbrev pub without_entry : ℕ → HeldStack → HeldStack
without_entry x s = record s { spans = leave x s.spans }

-- the stack with room for so many entries at least
abbrev pub with_room : ℕ → HeldStack → HeldStack
with_room depth s = record s { room = max s.room depth }

-- the spans that an iterator over a stack has yet to give
abbrev pub spans_to_give : StackIter → List ℕ
spans_to_give s = map number_of (reverse s.0.now)
