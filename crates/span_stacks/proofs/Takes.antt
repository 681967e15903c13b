-- Filters that have their own numbers take a level one at a time.
use Rattle.std.proofs.Common.{◌≡◌, ℕ, Bool, true, false, ◌||◌, ◌==◌, Some, None, refl, sym, ◌∙◌, ap}
use Rattle.std.proofs.lemmas.Bool.{false_from_ne_true, false≢true}
use Rattle.std.specs.Prelude.{if◌then◌else◌}
use Rattle.span_targets.specs.declared.setting.Setting.{Setting}
use Rattle.span_stacks.specs.Takes.{OneTakes}
use Rattle.span_stacks.specs.Verdict.{AreDistinct, HasOwnNumbers, numbers_of}
use Rattle.span_registry.specs.Form.{Filtered, Form, Parts}
use Rattle.span_registry.specs.Reload.{takes_setting}

-- the number is the filter's, or that of one under it
by_number : (own a b c : Bool) → (b ≡ true → c ≡ true) → (if own then a else b) ≡ true → (own || c) ≡ true
by_number true a b c h e = refl
by_number false a b c h e = h e

-- either part has the number where either takes the level
by_part : (a b c d : Bool) → (a ≡ true → c ≡ true) → (b ≡ true → d ≡ true) → (a || b) ≡ true → (c || d) ≡ true
by_part true b c d g h e = ap (λ (t : Bool). t || d) (g refl)
by_part false b true d g h e = refl
by_part false b false d g h e = h e

-- a level is taken only under a number that the form has
taken_under : (f : Form) (n : ℕ) (l : Setting) → takes_setting f n l ≡ true → numbers_of f n ≡ true
taken_under (Filtered None a f) n l e = taken_under f n l e
taken_under (Filtered (Some m) a f) n l e = by_number (n == m) (a.takes l) (takes_setting f n l) (numbers_of f n) (taken_under f n l) e
taken_under (Parts joint o i) n l e =
    by_part (takes_setting o n l) (takes_setting i n l) (numbers_of o n) (numbers_of i n) (taken_under o n l) (taken_under i n l) e
taken_under other n l e = absurd (false≢true e)

-- so where no two filters have one number, one takes it
one_takes : (f : Form) (n : ℕ) (l : Setting) → AreDistinct f → OneTakes f n l
one_takes (Filtered None a f) n l d = one_takes f n l d
one_takes (Filtered (Some m) a f) n l d = one_takes f n l d.1
one_takes (Parts joint o i) n l d = (
  one_takes o n l d.0,
  one_takes i n l d.1,
  λ e. false_from_ne_true (takes_setting i n l) (λ g. false≢true (sym (d.2 n (taken_under o n l e)) ∙ taken_under i n l g)),
)
one_takes other n l d = tt

-- and so where they have numbers of their own
pub own_numbers_take_once : (f : Form) (next n : ℕ) (l : Setting) → HasOwnNumbers f next → OneTakes f n l
own_numbers_take_once f next n l h = one_takes f n l h.distinct
