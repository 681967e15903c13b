-- How filters get their numbers.
use Rattle.std.specs.Prelude.{◌≡◌, ℕ, ◌+◌, nat_lt, if◌then◌else◌, Some}
use Rattle.span_core.specs.declared.filter.TheConstants.FilterId.{LIMIT}
use Rattle.span_store.specs.Store.{RegistryState}
use Rattle.span_registry.specs.Form.{Terminal, Filtered, Form, Leaf, Parts}

-- how many filters a form has
abbrev pub filters_in : Form → ℕ
filters_in (Leaf still a) = 0
filters_in (Filtered n a f) = 1 + filters_in f
filters_in (Parts k o i) = filters_in o + filters_in i
filters_in (Terminal v) = 0

-- the form once its filters took the next numbers, and the number that is next: a filter before
-- those in it, the outer part before the inner one. Where all are given away, a filter is unchanged
abbrev pub numbered : Form → ℕ → Form × ℕ
numbered (Leaf still a) n = (Leaf still a, n)
numbered (Filtered m a f) n =
    if nat_lt n LIMIT then (Filtered (Some n) a (numbered f (n + 1)).0, (numbered f (n + 1)).1)
    else (Filtered m a (numbered f n).0, (numbered f n).1)
numbered (Parts k o i) n =
    (Parts k (numbered o n).0 (numbered i (numbered o n).1).0, (numbered i (numbered o n).1).1)
numbered (Terminal v) n = (Terminal v, n)

-- a layer's filters take the next numbers of the registry that a subscriber stands on; all else of
-- that registry is unchanged
pub record TakesNumbers {L S : Type 0} (registry : S → RegistryState)
    (with_registry : S → RegistryState → S) (has_form : L → Form → Type 0) (x : L) (s : S) (y : L)
    (t : S) : Type 0 where
  pub alone : t ≡ with_registry s (record (registry s) { filters = (registry t).filters })
  pub form : (f : Form) → has_form x f → has_form y (numbered f (registry s).filters).0
  pub next : (f : Form) → has_form x f → (registry t).filters ≡ (numbered f (registry s).filters).1
