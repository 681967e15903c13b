-- What a slot is seen as.
use Rattle.std.specs.Prelude.{ℕ, Option}

-- a slot: how many spans it held before, and the key of the span that it holds
pub record SlotValue : Type 0 where
  pub generation : ℕ
  pub key : Option ℕ
