-- What a receiver keeps between its calls, and what is said of a call that is served behind a lock.
use Rattle.std.specs.Prelude.{◌≡◌, ◌-◌, ◌^◌, ℕ, List, length, min}
use Rattle.span_dispatch.specs.Contract.{SubscriberOf}
use Rattle.span_dispatch.specs.Serve.{forgetful, stack_of, with_stack}
use Rattle.span_dispatch.specs.declared.dispatch.Dispatch.{Dispatch}
use Rattle.span_shared.specs.Journal.{Entry, KeepsJournal}
use Rattle.span_store.specs.Store.{RegistryState}

-- a dispatcher, and how many calls of it were accepted
pub record ServedState (D : Type 0) : Type 0 where
  pub dispatch : D
  pub calls : ℕ

-- the last number to which calls are counted
abbrev pub last_count : ℕ
last_count = 2 ^ 64 - 1

-- the number of a journal's entries, counted up to the last number
abbrev pub count_of : List Entry → ℕ
count_of journal = min (length journal) last_count

-- a dispatcher may be called, no span is closing, and there is a journal that one thread could have
-- made: it leaves the dispatcher's store, extensions aside, and has so many entries
abbrev pub Journalled : {S : Type 0} → (S → RegistryState) → (S → Type 0) → Dispatch S → ℕ → Type 0
Journalled registry usable d calls =
    (journal : List Entry) × KeepsJournal registry usable d journal × (calls ≡ count_of journal)

module _ {S : Type 0} (s : SubscriberOf S) where
  -- so many calls were accepted by some dispatcher, as a receiver keeps it between its calls
  abbrev pub HasCounted : ℕ → Type 0
  HasCounted calls = (d : Dispatch S) × Journalled s.registry s.usable d calls

  -- this holds between some dispatcher, as a receiver keeps it between its calls, and what its call
  -- leaves
  abbrev pub ServesSome : (Dispatch S → Dispatch S → Type 0) → Type 0
  ServesSome holds =
      (old : Dispatch S) × (new : Dispatch S) × (calls : ℕ)
      × Journalled s.registry s.usable old calls × holds old new

-- the observer of a stack is changed, with this result; nothing else of the stack is, and all that
-- the dispatcher cached of its answers is forgotten
pub record ChangesObserver {S T A : Type 0} (registry : S → RegistryState) (observer : S → T)
    (replaced : S → T → S) (changes : T → A → T → Type 0) (result : A) (old new : Dispatch S)
    : Type 0 where
  pub changed : changes (observer (stack_of old)) result (observer (stack_of new))
  pub rest : new
      ≡ with_stack (forgetful old) (replaced (stack_of old) (observer (stack_of new)))
  pub same_registry : registry (stack_of new) ≡ registry (stack_of old)
