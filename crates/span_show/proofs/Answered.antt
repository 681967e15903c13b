-- Answers to requests to which no memory was refused, on a registry with all room.
use Rattle.std.proofs.Common.{◌≡◌, ◌+◌, ◌<◌, ℕ, List, [], ◌∷◌, ◌++◌, get_or, length, subst, sym, take}
use Rattle.std.proofs.lemmas.List.{take_more}
use Rattle.std.specs.List.{AllByRecursion}
use Rattle.span_dispatch.specs.declared.request.Answer.{Answer}
use Rattle.span_store.specs.Store.{RegistryState}
use Rattle.span_show.specs.Serve.{FoundMemory, HasAllRoom}

-- a registry that is another has the room that this has
pub has_all_room : {s t : RegistryState} → s ≡ t → HasAllRoom t → HasAllRoom s
has_all_room same room = subst HasAllRoom (sym same) room

-- what is said of answers is said of them as they are lent
pub all_found : {xs ys : List Answer} → xs ≡ ys → AllByRecursion FoundMemory xs → AllByRecursion FoundMemory ys
all_found same all = subst (λ zs. AllByRecursion FoundMemory zs) same all

-- one more behind these
found_behind : (xs : List Answer) (a : Answer) → AllByRecursion FoundMemory xs → FoundMemory a → AllByRecursion FoundMemory (xs ++ a ∷ [])
found_behind [] a all found = (found, tt)
found_behind (x ∷ xs) a all found = (all.0, found_behind xs a all.1 found)

-- one answer more was looked at
pub found_more : (xs : List Answer) (i : ℕ) (d : Answer)
    → i < length xs → AllByRecursion FoundMemory (take i xs) → FoundMemory (get_or xs i d) → AllByRecursion FoundMemory (take (i + 1) xs)
found_more xs i d within all found =
    subst (λ ys. AllByRecursion FoundMemory ys) (sym (take_more xs i d within)) (found_behind (take i xs) (get_or xs i d) all found)
