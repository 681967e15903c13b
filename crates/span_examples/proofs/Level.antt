-- A layer under a level, that took the next number of its registry.
use Rattle.std.proofs.Common.{arith, ◌≡◌, ◌+◌, ◌≤◌, nat_lt, ℕ, Bool, true, None}
use Rattle.std.proofs.lemmas.Bool.Decides.{nat_tests}
use Rattle.std.specs.Prelude.{if◌then◌else◌, Some}
use Rattle.span_core.specs.declared.filter.TheConstants.FilterId.{LIMIT}
use Rattle.span_layers.specs.Observe.{open_answers}
use Rattle.span_registry.specs.Behaviour.{Behaviour}
use Rattle.span_registry.specs.Form.{Filtered, Form, Leaf}

pub has_room : (n : ℕ) → n + 1 ≤ LIMIT → nat_lt n LIMIT ≡ true
has_room n h = grind (arith, nat_tests, h)

-- a leaf under a filter, by the filter's number, if it has one, and what it answers
abbrev pub leaf_under : Behaviour → Form
leaf_under a = Filtered None a (Leaf true open_answers)

-- that form and the next number, once it took this one, if there was room
abbrev pub took : Behaviour → ℕ → Bool → Form × ℕ
took a n b = if b then (Filtered (Some n) a (Leaf true open_answers), n + 1) else (leaf_under a, n)
