-- How a fact on what was lent is carried over.
use Rattle.std.specs.Prelude.{Option, None, Some}
use Rattle.std.specs.Option.{OnSome}

-- what holds of a value that is there implies what follows from it
pub on_some : {A : Type 0} (r : Option A) {P Q : Type 0} → (P → Q) → OnSome r P → OnSome r Q
on_some None f h = tt
on_some (Some x) f h = f h
