-- Words for what takes more than one call.
use Rattle.std.specs.Prelude.{◌≡◌, ℕ, List, map, Option, None, Some, IfSome}
use Rattle.std.specs.FinMap.{get}
use Rattle.std.specs.Option.{option_and_then, option_map}
use Rattle.std.specs.declared.alloc.Global.{Global}
use Rattle.std.specs.declared.vec.Vec.{Vec}
use Rattle.span_core.specs.Metadata.{name_of}
use Rattle.span_core.specs.Span.{number_of}
use Rattle.span_core.specs.declared.pass.Pass.{Pass}
use Rattle.span_core.specs.declared.span.Attributes.{Attributes}
use Rattle.span_core.specs.declared.span.Id.{Id}
use Rattle.span_core.specs.declared.span.Lane.{Lane}
use Rattle.span_extensions.specs.Extensions.{Place, value_under}
use Rattle.span_extensions.specs.declared.tag.Tag.{Tag}
use Rattle.span_store.specs.Step.{Drops, Enters, Opens, Removal, asked, exited}
use Rattle.span_store.specs.Store.{IsChain, RegistryState, parent_of, stack_on}

-- a span is opened and then entered
pub record Begins (lane : Lane) (attrs : Attributes) (pass : Pass) (old new : RegistryState)
    (id : Id) : Type 0 where
  pub opened : RegistryState
  pub opens : Opens lane (asked attrs pass) id old opened
  pub enters : Enters lane id opened new

-- the value that a span in the store has under a tag
abbrev pub value_in : {T : Type 0} → Place T → RegistryState → Id → Tag T → Option T
value_in place s id tag =
    option_and_then (λ m. value_under place m tag) (get s.store.extensions (number_of id))

-- the name of a span in the store
abbrev pub name_in : RegistryState → ℕ → Option (List ℕ)
name_in s x = option_map (λ r. name_of r.metadata) (get s.store.spans x)

-- the name of the parent of a span in the store
abbrev pub parent_name_in : RegistryState → ℕ → Option (List ℕ)
parent_name_in s x = option_and_then (name_in s) (parent_of s.store.spans x)

-- a span, its parent, and so on up to a root
abbrev pub IsChainOf : RegistryState → Id → List ℕ → Type 0
IsChainOf s id xs = IsChain s.store.spans (Some (number_of id)) xs

-- the stack of a lane
abbrev pub stack_in : RegistryState → ℕ → List ℕ
stack_in s lane = stack_on s.store.stacks lane

-- the registry, where a lane has left a span
abbrev pub left : RegistryState → Lane → Id → RegistryState
left s lane id = record s { store = exited s.store lane.0 (number_of id) }

-- the list, if there is one, has these spans
abbrev pub Lists : Option (Vec Id Global) → List ℕ → Type 0
Lists list xs = IfSome list (λ v. map number_of v.items ≡ xs)

-- a handle is dropped; the list has what closes by that
abbrev pub DropsAndLists : Id → RegistryState → RegistryState → Option (Vec Id Global) → Type 0
DropsAndLists id old new list = (xs : List ℕ) × Drops old (number_of id) xs new × Lists list xs

-- a closing span is removed, and each parent that closes by that; the list has them
abbrev pub RemovesAndLists : Id → RegistryState → RegistryState → Option (Vec Id Global) → Type 0
RemovesAndLists id old new list =
    (xs : List ℕ) × Removal (λ _ _. ⊥) old id xs None new × Lists list xs
