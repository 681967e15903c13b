-- What a round looks at.
use Rattle.std.specs.Prelude.{◌≡◌, ℕ, List, Option, Some, length, min}
use Rattle.std.below.core.specs.declared.int.u32.TheConstants.{MAX}
use Rattle.std.specs.FinMap.{get}
use Rattle.std.specs.List.{All}
use Rattle.std.specs.Option.{option_and_then}
use Rattle.std.specs.declared.alloc.Global.{Global}
use Rattle.std.specs.declared.vec.Vec.{Vec}
use Rattle.span_core.specs.Span.{number_of}
use Rattle.span_core.specs.declared.span.Id.{Id}
use Rattle.span_dispatch.specs.Registration.{IsRegistered}
use Rattle.span_dispatch.specs.declared.dispatch.Dispatch.{Dispatch}
use Rattle.span_dispatch.specs.declared.registration.Registration.{Registration}
use Rattle.span_extensions.specs.Extensions.{Place, value_under}
use Rattle.span_extensions.specs.declared.tag.Tag.{Tag}
use Rattle.span_store.specs.Store.{IsChain, RegistryState}

-- so many spans stand from this one up to its root, counted to the highest number that there is
abbrev pub IsDepth : RegistryState → Id → ℕ → Type 0
IsDepth s id n =
    (xs : List ℕ) → IsChain s.store.spans (Some (number_of id)) xs → n ≡ min (length xs) MAX

-- the value that a span in the store has under a tag
abbrev pub value_in : {T : Type 0} → Place T → RegistryState → Id → Tag T → Option T
value_in place s id tag =
    option_and_then (λ m. value_under place m tag) (get s.store.extensions (number_of id))

-- a dispatcher registered all of these
abbrev pub AreRegistered : {S : Type 0} → Dispatch S → Vec Registration Global → Type 0
AreRegistered d table = All (IsRegistered d) table.items
