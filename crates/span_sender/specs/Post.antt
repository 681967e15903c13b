-- The requests that a poster was given.
use Rattle.std.specs.Prelude.{◌≡◌, ℕ, List, ◌++◌, Option, None, Some, ⊤}
use Rattle.span_sender.specs.declared.answer.Answer.{Answer}

-- the requests that were posted, and what came of each, where that is known
abbrev pub Posts : Type 0
Posts = Option (List (List ℕ × Answer))

-- what is known of requests and their answers grows by these
abbrev pub Grows : Posts → Posts → List (List ℕ × Answer) → Type 0
Grows None new more = ⊤
Grows (Some xs) None more = ⊥
Grows (Some xs) (Some ys) more = ys ≡ xs ++ more
