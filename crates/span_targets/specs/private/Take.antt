-- How a filter takes directives of a text.
use Rattle.std.specs.Prelude.{◌≡◌, ℕ, List, ◌++◌, Result, Ok, Err}
use Rattle.std.specs.Option.{option_copied}
use Rattle.span_targets.specs.Targets.{names_of}
use Rattle.span_targets.specs.Text.{Meaning, directives_in, named_from, with_meaning, wrong_by, wrong_from}
use Rattle.span_targets.specs.declared.error.Fault.{Fault}
use Rattle.span_targets.specs.declared.error.WrongDirective.{WrongDirective}
use Rattle.span_targets.specs.declared.read.Said.{Said}
use Rattle.span_targets.specs.declared.targets.Targets.{Targets}

-- a directive was read as it is meant
abbrev pub ReadsOne : Result Meaning Fault → Result Said Fault → Type 0
ReadsOne r (Ok said) = r ≡ Ok (option_copied said.target, said.level)
ReadsOne r (Err fault) = r ≡ Err fault

-- a filter takes the directive with this number, or it is wrong and stands behind the wrong ones
pub record Takes (n : ℕ) (r : Result Meaning Fault) (f : Targets) (ws : List WrongDirective)
    (g : Targets) (vs : List WrongDirective) : Type 0 where
  pub names : names_of g ≡ with_meaning r (names_of f)
  pub wrong : vs ≡ ws ++ wrong_by n r

-- a filter takes the directives of a text, and the wrong ones stand behind those at hand
pub record TakesAll (s : List ℕ) (f : Targets) (ws : List WrongDirective) (g : Targets)
    (vs : List WrongDirective) : Type 0 where
  pub names : names_of g ≡ named_from 1 (directives_in s) (names_of f)
  pub wrong : vs ≡ ws ++ wrong_from 1 (directives_in s)
