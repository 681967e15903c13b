-- The path of a leaf: the filters round it, from outside in; of a filter: those round it, and
-- itself; and what a path passes.
use Rattle.std.specs.Prelude.{ℕ, Bool, true, false, ◌&&◌, List, [], ◌∷◌, Option, Some, None}
use Rattle.std.specs.Option.{option_map}
use Rattle.span_core.specs.Filters.{FilterSet, union}
use Rattle.span_store.specs.Store.{Store}
use Rattle.span_registry.specs.Behaviour.{Behaviour, Notice}
use Rattle.span_registry.specs.Form.{Filtered, Form, Leaf, Parts}
use Rattle.span_registry.specs.Position.{Here, Inner, Outer, Position, Under}
use Rattle.span_registry.specs.Plan.{passes}
use Rattle.span_registry.specs.Question.{single}

-- filters from outside in, each by its number, if it has one, and what it answers
abbrev pub Path : Type 0
Path = List (Option ℕ × Behaviour)

-- the path of the leaf or the filter at a position, if one stands there
abbrev pub path_at : Form → Position → Option Path
path_at (Leaf still a) Here = Some []
path_at (Filtered n a f) Here = Some ((n, a) ∷ [])
path_at (Filtered n a f) (Under p) = option_map (λ path. (n, a) ∷ path) (path_at f p)
path_at (Parts k o i) (Outer p) = path_at o p
path_at (Parts k o i) (Inner p) = path_at i p
path_at other p = None

-- whether a path passes a notice, asked on a lane of a store: every filter of it has a number and
-- passes it, in the view under the filters from outside down to that one
abbrev pub passes_path : Path → Notice → Store → ℕ → FilterSet → Bool
passes_path [] e s lane under = true
passes_path ((None, a) ∷ path) e s lane under = false
passes_path ((Some n, a) ∷ path) e s lane under =
    passes a e s lane (union under (single n)) && passes_path path e s lane (union under (single n))

-- the filters that whoever stands at a position looks under, below these: all with a number round
-- it, and its own if it is a filter
abbrev pub mask_at : Form → Position → FilterSet → FilterSet
mask_at (Filtered (Some n) a f) Here under = union under (single n)
mask_at (Filtered (Some n) a f) (Under p) under = mask_at f p (union under (single n))
mask_at (Filtered None a f) (Under p) under = mask_at f p under
mask_at (Parts k o i) (Outer p) under = mask_at o p under
mask_at (Parts k o i) (Inner p) under = mask_at i p under
mask_at other p under = under

-- a set of filters with those of a path that have a number
abbrev pub mask_of : Path → FilterSet → FilterSet
mask_of [] under = under
mask_of ((Some n, a) ∷ path) under = mask_of path (union under (single n))
mask_of ((None, a) ∷ path) under = mask_of path under
