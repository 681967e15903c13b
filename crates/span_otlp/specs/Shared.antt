-- Which spans share a trace: those that have one root.
use Rattle.std.specs.Prelude.{◌≡◌, ℕ, true, List, [], ◌∷◌, ◌++◌, None, Some, flat_map, map, ⊤}
use Rattle.std.specs.List.{Contains}
use Rattle.span_core.specs.Span.{number_of}
use Rattle.span_core.specs.declared.span.Id.{Id}
use Rattle.span_otlp.specs.Root.{root_in}
use Rattle.span_otlp.specs.Sound.{AreSound, has_opened}
use Rattle.span_times.specs.Finished.{HandsOutFinished}
use Rattle.span_times.specs.Kept.{KeptState}
use Rattle.span_times.specs.declared.happening.Happening.TheVariants.{Opened}
use Rattle.span_times.specs.declared.happening.Happening.{Happening}
use Rattle.span_times.specs.declared.kept.Taken.{Taken}

-- a span has the root of its parent
abbrev pub ChildrenHaveTheirParentsRoot : Type 0
ChildrenHaveTheirParentsRoot =
    (hs : List Happening) (child parent : Id) (callsite : ℕ) → AreSound hs
    → Contains hs (Opened child callsite (Some parent))
    → root_in hs (number_of child) ≡ root_in hs (number_of parent)

-- a span without a parent is its own root
abbrev pub RootsAreTheirOwn : Type 0
RootsAreTheirOwn =
    (hs : List Happening) (root : Id) (callsite : ℕ) → AreSound hs
    → Contains hs (Opened root callsite None) → root_in hs (number_of root) ≡ number_of root

-- what is known of spans by what was taken out
abbrev pub known_by : Taken → List Happening
known_by taken = taken.above.items ++ map (λ p. p.what) taken.points.items

-- a timeline kept the first of these, and was notified of the second; then this was taken out, and
-- the rest stayed
pub record IsPart (kept turn : List Happening) (taken : Taken) (before after : KeptState)
    : Type 0 where
  pub whole : map (λ p. p.what) before.points ≡ kept ++ turn
  pub handed : HandsOutFinished taken before after

-- a timeline that keeps this is notified in turns, and after each something is taken out
abbrev pub AreParts : List Happening → List (List Happening × Taken) → Type 0
AreParts kept [] = ⊤
AreParts kept (e ∷ parts) =
    (before : KeptState)
    × ((after : KeptState)
    × (IsPart kept e.0 e.1 before after × AreParts (map (λ p. p.what) after.points) parts))

-- a span that is known by a part has the root that it has by all that happened, in whichever turns
-- that is handed out
abbrev pub PartsKeepRoots : Type 0
PartsKeepRoots =
    (kept turn : List Happening) (parts : List (List Happening × Taken)) (taken : Taken) (x : ℕ)
    → AreParts kept parts → Contains parts (turn, taken)
    → AreSound (kept ++ flat_map (λ e. e.0) parts) → has_opened (known_by taken) x ≡ true
    → root_in (known_by taken) x ≡ root_in (kept ++ flat_map (λ e. e.0) parts) x
