-- Which filters take a setting: where numbers are distinct, one at most.
use Rattle.std.specs.Prelude.{◌≡◌, ⊤, ℕ, true, false}
use Rattle.span_targets.specs.declared.setting.Setting.{Setting}
use Rattle.span_stacks.specs.Verdict.{HasOwnNumbers}
use Rattle.span_registry.specs.Form.{Terminal, Filtered, Form, Leaf, Parts}
use Rattle.span_registry.specs.Reload.{takes_setting}

-- of two parts that stand together in a form, not both have a filter that takes this setting under
-- this number
abbrev pub OneTakes : Form → ℕ → Setting → Type 0
OneTakes (Leaf still a) n l = ⊤
OneTakes (Filtered m a f) n l = OneTakes f n l
OneTakes (Parts joint o i) n l =
    OneTakes o n l × OneTakes i n l × (takes_setting o n l ≡ true → takes_setting i n l ≡ false)
OneTakes (Terminal v) n l = ⊤

-- the law: of two parts whose filters have numbers of their own, not both take a setting
abbrev pub OneFilterTakesASetting : Type 0
OneFilterTakesASetting =
    (f : Form) (next n : ℕ) (l : Setting) → HasOwnNumbers f next → OneTakes f n l
