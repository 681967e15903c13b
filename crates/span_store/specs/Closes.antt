-- What a drop closes.
use Rattle.std.specs.Prelude.{◌≡◌, ◌↔◌, ℕ, ◌<◌, ◌⊎◌, List, [], ◌∷◌, Option, Some}
use Rattle.std.specs.FinMap.{FinMap, get, remove}
use Rattle.std.specs.List.{AllByRecursion}
use Rattle.std.specs.Ordering.{nat_cmp}
use Rattle.span_store.specs.Store.{Span, Spans, Store, IsChain, HasChild, IsInStore, take_handle}

-- x is one of these
abbrev pub Member : ℕ → List ℕ → Type 0
Member x [] = ⊥
Member x (y ∷ ys) = (x ≡ y) ⊎ Member x ys

-- y is x or a descendant of it: x stands in y's chain of parents up to a root
abbrev pub IsWithin : Spans → ℕ → ℕ → Type 0
IsWithin m y x = (up : List ℕ) × IsChain m (Some y) up × Member x up

-- x is in the store, and there is no handle on it or on any descendant
abbrev pub IsUnheld : Spans → ℕ → Type 0
IsUnheld m x =
    IsInStore m x × ((y : ℕ) (s : Span) → IsWithin m y x → get m y ≡ Some s → s.handles ≡ 0)

-- each is a descendant of all that follow
abbrev pub IsDeepestFirst : Spans → List ℕ → Type 0
IsDeepestFirst m [] = Unit {0}
IsDeepestFirst m (x ∷ xs) =
    AllByRecursion (λ y. IsWithin m x y × ¬ (x ≡ y)) xs × IsDeepestFirst m xs

-- all spans with no handle on themselves or on any descendant, deepest first
pub record AreUnheld (m : Spans) (xs : List ℕ) : Type 0 where
  pub exact : (x : ℕ) → Member x xs ↔ IsUnheld m x
  pub order : IsDeepestFirst m xs

-- the map without these
abbrev pub remove_all : {X : Type 0} → FinMap nat_cmp X → List ℕ → FinMap nat_cmp X
remove_all m [] = m
remove_all m (x ∷ xs) = remove_all (remove m x) xs

-- the store without these spans and their extensions
abbrev pub without : Store → List ℕ → Store
without s xs = record s { spans = remove_all s.spans xs; extensions = remove_all s.extensions xs }

-- a drop of x, in a store where no span is closing, closes these spans in this order
abbrev pub Closes : Spans → ℕ → List ℕ → Type 0
Closes m x closed = AreUnheld (take_handle m x) closed

-- each span has a handle or a child, so none is closing
abbrev pub HasNoClosing : Spans → Type 0
HasNoClosing m = (x : ℕ) (r : Span) → get m x ≡ Some r → (0 < r.handles) ⊎ HasChild m x

-- each span has a handle or a child, but perhaps this one
abbrev pub HasNoClosingBut : Spans → Option ℕ → Type 0
HasNoClosingBut m o =
    (x : ℕ) (r : Span) → get m x ≡ Some r → ((0 < r.handles) ⊎ HasChild m x) ⊎ (o ≡ Some x)
