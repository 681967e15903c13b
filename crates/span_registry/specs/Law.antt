-- What the laws say, where that takes more than a line.
use Rattle.std.specs.Prelude.{◌≡◌, ℕ, IsTrue, List, Option, [], ◌∷◌, ◌++◌, Some, None, reverse}
use Rattle.std.specs.FinMap.{get}
use Rattle.std.specs.List.{filter, find}
use Rattle.std.specs.Option.{option_map}
use Rattle.span_core.specs.Filters.{FilterSet, IsEmpty}
use Rattle.span_core.specs.Span.{number_of}
use Rattle.span_core.specs.declared.span.Id.{Id}
use Rattle.span_core.specs.declared.span.Parent.{Parent}
use Rattle.span_extensions.specs.Extensions.{Place, SameTag, ValueType, no_values, value_under, with_value, without_value}
use Rattle.span_extensions.specs.declared.extensions.ExtensionMap.{ExtensionMap}
use Rattle.span_extensions.specs.declared.tag.Tag.{Tag}
use Rattle.span_store.specs.Closes.{HasNoClosing}
use Rattle.span_store.specs.Step.{Drops, IsCurrent, Releases, Removal}
use Rattle.span_store.specs.Store.{IsChain, IsForest, IsInStore, RegistryState, SameStacks, Spans, Store, parent_of}
use Rattle.span_store.specs.declared.registry.Released.TheVariants.{Closing}
use Rattle.span_registry.specs.Agree.{AgreeAt, IsCutDown}
use Rattle.span_registry.specs.Behaviour.{AreAlike}
use Rattle.span_registry.specs.Subscriber.{AndHooks, SameButExtensions}
use Rattle.span_registry.specs.View.{IsDescent, current_shown, event_shown, is_shown, metadata_shown, parent_shown, plain_view, scope, see, seen_spans, shown, view_of}

-- a relation is transitive: where it holds of a first and a second, and of that and a third, it
-- holds of the first and the third
abbrev pub IsTransitive : {A : Type 0} → (A → A → Type 0) → Type 0
IsTransitive {A} R = (a b c : A) → R a b → R b c → R a c

-- each lane has the stack that it had, and nothing else differs
pub record RestoresStacks (old new : Store) : Type 0 where
  pub stacks : SameStacks old new
  pub rest : new ≡ record old { stacks = new.stacks }

-- the chain of parents of x leads to a root, which is in the store
abbrev pub ChainEndsAtRoot : Spans → ℕ → Type 0
ChainEndsAtRoot m x =
    (below : List ℕ) × (root : ℕ) × IsChain m (Some x) (below ++ root ∷ []) × IsInStore m root
    × (parent_of m root ≡ None)

-- a drop by which its span is closing, and then removals until none is answered, with what
-- `between` allows in between
pub record ClosesAll (between : RegistryState → RegistryState → Type 0) (old : RegistryState)
    (id : Id) (closed : List ℕ) (new : RegistryState) : Type 0 where
  pub released : RegistryState
  pub is_forest : IsForest old.store.spans
  pub settled : HasNoClosing old.store.spans
  pub release : Releases id Closing old released
  pub removal : Removal between released id closed None new

-- such a drop is what its definition says, extensions aside where hooks write them in between; and
-- then no span is closing
pub record ClosesWhatItShould (old : RegistryState) (id : Id) (closed : List ℕ)
    (new : RegistryState) : Type 0 where
  pub alone : ClosesAll (λ _ _. ⊥) old id closed new → Drops old (number_of id) closed new
  pub hooks : ClosesAll SameButExtensions old id closed new
      → AndHooks (λ s. s) (λ s t. Drops s (number_of id) closed t) old new
  pub settled : ClosesAll SameButExtensions old id closed new → HasNoClosing new.store.spans

-- what a mask lets be seen of x: what the store has of it; as its scope the chain of its parents,
-- those that are hidden left out, all of it under a mask of no filter, and nothing where x isn't in
-- the store; as its parent the first above it that isn't hidden. Under a mask of no filter a lane
-- is seen to be in the span that it is in. From the root on, the chain of x leads down to it
pub record LooksUp (s : Store) (mask : FilterSet) (x : ℕ) : Type 0 where
  pub span : get (seen_spans s mask) x
      ≡ option_map (λ r. see mask r (get s.extensions x)) (get s.spans x)
  pub shown : (chain : List ℕ) → IsChain s.spans (Some x) chain
      → scope (seen_spans s mask) (Some x) ≡ filter (is_shown (seen_spans s mask)) chain
  pub whole : (chain : List ℕ) → IsEmpty mask → IsChain s.spans (Some x) chain
      → scope (seen_spans s mask) (Some x) ≡ chain
  pub outside : get s.spans x ≡ None → scope (seen_spans s mask) (Some x) ≡ []
  pub parent : (above : List ℕ) → IsChain s.spans (Some x) (x ∷ above)
      → parent_shown (seen_spans s mask) x ≡ find (is_shown (seen_spans s mask)) above
  pub current : (lane : ℕ) → IsEmpty mask → IsCurrent s lane (current_shown (view_of s lane mask))
  pub descent : (chain : List ℕ) → IsChain s.spans (Some x) chain
      → IsDescent s.spans None (reverse chain) x

-- extensions aside, a view shows the same: the same spans with their metadata and parents, the same
-- scopes, the span that the lane is in, and that of an event
pub record ShowsPlainly (s : Store) (lane : ℕ) (mask : FilterSet) : Type 0 where
  pub shown : (x : ℕ) → shown x (view_of s lane mask) ≡ shown x (plain_view s lane mask)
  pub metadata : (x : ℕ)
      → metadata_shown x (view_of s lane mask) ≡ metadata_shown x (plain_view s lane mask)
  pub current : current_shown (view_of s lane mask) ≡ current_shown (plain_view s lane mask)
  pub event : (p : Parent)
      → event_shown p (view_of s lane mask) ≡ event_shown p (plain_view s lane mask)
  pub parent : (x : ℕ)
      → parent_shown (view_of s lane mask).spans x ≡ parent_shown (plain_view s lane mask).spans x
  pub scope : (o : Option ℕ)
      → scope (view_of s lane mask).spans o ≡ scope (plain_view s lane mask).spans o

-- some store is this one cut down to these filters
abbrev pub CanBeCutDown : FilterSet → Store → Type 0
CanBeCutDown numbers s = (t : Store) × IsCutDown numbers s t

-- where the stores agree as far as these filters go, and each filter of the mask is one of them, a
-- lane's views under the mask differ in extensions alone
abbrev pub AreSeenAlike : FilterSet → FilterSet → Store → Store → ℕ → Type 0
AreSeenAlike numbers mask s t lane =
    AgreeAt numbers s t → ((n : ℕ) → IsTrue (mask n) → IsTrue (numbers n))
    → AreAlike (view_of s lane mask) (view_of t lane mask)

-- at first no tag has a value; what is written is read, what is removed is gone, and each other tag
-- keeps its value
pub record KeepsByTag {T U : Type 0} (type : ValueType) (place : Place T) (other_type : ValueType)
    (other_place : Place U) : Type 0 where
  pub first : (tag : Tag T) → value_under place no_values tag ≡ None
  pub written : (m : ExtensionMap) (tag : Tag T) (v : T)
      → value_under place (with_value place m tag v) tag ≡ Some v
  pub removed : (m : ExtensionMap) (tag : Tag T)
      → value_under place (without_value place m tag) tag ≡ None
  pub beside_written : (m : ExtensionMap) (tag : Tag T) (v : T) (other : Tag U)
      → ¬ (SameTag type tag other_type other)
      → value_under other_place (with_value place m tag v) other ≡ value_under other_place m other
  pub beside_removed : (m : ExtensionMap) (tag : Tag T) (other : Tag U)
      → ¬ (SameTag type tag other_type other)
      → value_under other_place (without_value place m tag) other ≡ value_under other_place m other
