use Rattle.std.specs.Prelude.{Option, Some, None}
use Rattle.std.specs.Option.{IfSome}

-- what holds of each value holds of one that may be there
pub if_some_of_all : {T : Type 0} (P : T → Type 0) → ((x : T) → P x) → (o : Option T) → IfSome o P
if_some_of_all P h None = tt
if_some_of_all P h (Some x) = h x
