-- What isn't empty.
use Rattle.std.proofs.Common.{Result, Ok, Err}
use Rattle.std.specs.Prelude.{IfErr, OnErr}

-- what holds anyway holds where memory is refused
pub without_error : {T E P : Type 0} (r : Result T E) → P → OnErr r P
without_error (Ok v) p = tt
without_error (Err e) p = p

-- and at each error
pub at_an_error : {T E P : Type 0} (r : Result T E) → P → IfErr r (λ e. P)
at_an_error (Ok v) p = tt
at_an_error (Err e) p = p
