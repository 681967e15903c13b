-- Spans of a registry, their parents and their roots.
use Rattle.std.specs.Prelude.{◌≡◌, ℕ, List, [], ◌∷◌, ◌++◌, map, reverse, Option, None}
use Rattle.span_core.specs.Span.{number_of}
use Rattle.span_core.specs.declared.span.Id.{Id}
use Rattle.span_store.specs.Store.{IsInStore, IsOpen, RegistryState, parent_of}
use Rattle.span_registry.specs.References.{to_give_from_root}
use Rattle.span_registry.specs.View.{IsDescent}
use Rattle.span_registry.specs.declared.scope.ScopeFromRoot.{ScopeFromRoot}
use Rattle.span_examples.specs.Uses.{IsChainOf}

-- the span is in the store
abbrev pub IsThereIn : RegistryState → Id → Type 0
IsThereIn s id = IsInStore s.store.spans (number_of id)

-- the span has a handle or a child
abbrev pub IsOpenIn : RegistryState → Id → Type 0
IsOpenIn s id = IsOpen s.store.spans (number_of id)

-- the parent of a span, if the span is in the store and has one
abbrev pub parent_in : RegistryState → Id → Option ℕ
parent_in s id = parent_of s.store.spans (number_of id)

-- the chain of parents of a span leads up to this one, which is in the store and has no parent
pub record IsRootAbove (s : RegistryState) (id root : Id) : Type 0 where
  pub way : (below : List ℕ) × IsChainOf s id (below ++ number_of root ∷ [])
  pub there : IsThereIn s root
  pub top : parent_in s root ≡ None

-- the ids that a scope from the root has yet to give
abbrev pub ids_from_root : ScopeFromRoot RegistryState → List ℕ
ids_from_root scope = map (λ r. r.id) (to_give_from_root scope)

-- a scope from the root gives a span and its ancestors, the root first
abbrev pub GivesFromRoot : RegistryState → Id → ScopeFromRoot RegistryState → Type 0
GivesFromRoot s id scope = (xs : List ℕ) → IsChainOf s id xs → ids_from_root scope ≡ reverse xs

-- what a scope from the root gives begins at a root and leads down to this span, each the parent of
-- the next
abbrev pub LeadsDownTo : RegistryState → Id → ScopeFromRoot RegistryState → Type 0
LeadsDownTo s id scope = IsDescent s.store.spans None (ids_from_root scope) (number_of id)
