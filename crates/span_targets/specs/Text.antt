-- What a text says: directives, with commas between them.
use Rattle.std.specs.Prelude.{◌≡◌, ◌↔◌, ℕ, ◌+◌, List, [], ◌∷◌, ◌++◌, map, codes, bytes_eq, ◌==◌, nat_lt, Bool, false, if◌then◌else◌, ⊤}
use Rattle.std.specs.Prelude.{Option, None, Some, Result, Ok, Err}
use Rattle.std.specs.Char.{digit_value, to_ascii_lowercase}
use Rattle.std.specs.List.{after_first, before_first, list_all, list_any, slice_split}
use Rattle.std.specs.Option.{option_or}
use Rattle.std.specs.Str.Parse.{digits_value, without_leading_plus}
use Rattle.span_core.specs.LevelText.{IsFilterText}
use Rattle.span_core.specs.declared.level.LevelFilter.{LevelFilter}
use Rattle.span_core.specs.declared.level.TheConstants.LevelFilter.{OFF, ERROR, WARN, INFO, DEBUG, TRACE}
use Rattle.span_targets.specs.Names.{Names, naming, nothing}
use Rattle.span_targets.specs.Targets.{names_of}
use Rattle.span_targets.specs.declared.error.Fault.{Fault}
use Rattle.span_targets.specs.declared.error.Fault.TheVariants.{Bracket, TooMany, TwoEquals, UnknownLevel}
use Rattle.span_targets.specs.declared.error.FromEnvError.{FromEnvError}
use Rattle.span_targets.specs.declared.error.FromEnvError.TheVariants.{Env, Parse}
use Rattle.span_targets.specs.declared.error.ParseError.{ParseError}
use Rattle.span_targets.specs.declared.error.ParseError.TheVariants.{OutOfMemory, Wrong}
use Rattle.span_targets.specs.declared.error.WrongDirective.{WrongDirective}
use Rattle.span_targets.specs.declared.targets.Targets.{Targets}
use Rattle.span_targets.specs.declared.parse.TheConstants.{MAX_DIRECTIVES}

-- the levels with a number, none above 5
abbrev pub level_numbered : ℕ → Option LevelFilter
level_numbered n =
    if n == 0 then Some OFF else if n == 1 then Some ERROR else if n == 2 then Some WARN
    else if n == 3 then Some INFO else if n == 4 then Some DEBUG
    else if n == 5 then Some TRACE else None

-- the levels with a name in small letters; the empty one is of errors
abbrev pub level_called : List ℕ → Option LevelFilter
level_called w =
    if bytes_eq w (codes "off") then Some OFF else if bytes_eq w (codes "error") then Some ERROR
    else if bytes_eq w (codes "warn") then Some WARN
    else if bytes_eq w (codes "info") then Some INFO
    else if bytes_eq w (codes "debug") then Some DEBUG
    else if bytes_eq w (codes "trace") then Some TRACE
    else if bytes_eq w [] then Some ERROR else None

-- whether the text is digits, one at least
abbrev pub is_numeral : List ℕ → Bool
is_numeral [] = false
is_numeral (c ∷ cs) = list_all (λ b. nat_lt (digit_value b) 10) (c ∷ cs)

-- the levels with the number that these digits write, if they are digits
abbrev pub level_counted : List ℕ → Option LevelFilter
level_counted s = if is_numeral s then level_numbered (digits_value 10 s) else None

-- the levels that a text names: by a number, behind a plus or not, or by a name in any case
abbrev pub level_named : List ℕ → Option LevelFilter
level_named s =
    option_or (level_counted (without_leading_plus s)) (level_called (map to_ascii_lowercase s))

-- the text names the levels that `span_core` reads of it, and no others
abbrev pub NamesLevels : List ℕ → Type 0
NamesLevels s = (l : LevelFilter) → (level_named s ≡ Some l) ↔ IsFilterText s l

-- whether the byte is one of the text's
abbrev pub has : ℕ → List ℕ → Bool
has b s = list_any (λ c. c == b) s

-- what a directive says: these levels pass where a target begins with this one, or by default
abbrev pub Meaning : Type 0
Meaning = Option (List ℕ) × LevelFilter

-- the levels are for that target, if they are levels
abbrev pub assigned : List ℕ → Option LevelFilter → Result Meaning Fault
assigned t (Some l) = Ok (Some t, l)
assigned t None = Err UnknownLevel

-- a level is the default, and of a target each level passes
abbrev pub alone : List ℕ → Option LevelFilter → Result Meaning Fault
alone s (Some l) = Ok (None, l)
alone s None = if has 91 s then Err Bracket else Ok (Some s, TRACE)

-- what the two sides of the first `=` say
abbrev pub sides : List ℕ → List ℕ → Result Meaning Fault
sides t s =
    if has 61 s then Err TwoEquals
    else if has 91 t then Err Bracket else assigned t (level_named s)

-- what a directive says, or what is wrong with it
abbrev pub meaning : List ℕ → Result Meaning Fault
meaning s =
    if has 61 s then sides (before_first (λ b. b == 61) s) (after_first (λ b. b == 61) s)
    else alone s (level_named s)

-- the names, and what a directive says, unless it is wrong
abbrev pub with_meaning : Result Meaning Fault → Names → Names
with_meaning (Ok d) m = naming d.0 d.1 m
with_meaning (Err fault) m = m

-- the directive with this number, if it is wrong
abbrev pub wrong_by : ℕ → Result Meaning Fault → List WrongDirective
wrong_by n (Ok d) = []
wrong_by n (Err fault) = record { number = n; fault = fault } ∷ []

-- what directives, numbered from n on, name beside what was named before: the wrong ones are left
-- out, and those behind the most that are read
abbrev pub named_from : ℕ → List (List ℕ) → Names → Names
named_from n [] m = m
named_from n (p ∷ ps) m =
    if nat_lt MAX_DIRECTIVES n then m else named_from (n + 1) ps (with_meaning (meaning p) m)

-- the wrong ones of directives, numbered from n on; of those behind the most that are read the
-- first is, as too many
abbrev pub wrong_from : ℕ → List (List ℕ) → List WrongDirective
wrong_from n [] = []
wrong_from n (p ∷ ps) =
    if nat_lt MAX_DIRECTIVES n then wrong_by n (Err TooMany)
    else wrong_by n (meaning p) ++ wrong_from (n + 1) ps

-- the directives of a text: what stands between its commas
abbrev pub directives_in : List ℕ → List (List ℕ)
directives_in s = slice_split (λ b. b == 44) s

-- what a text names by those of its directives that aren't wrong
abbrev pub named_by : List ℕ → Names
named_by s = named_from 1 (directives_in s) nothing

-- the wrong directives of a text, by their numbers, counted from 1
abbrev pub wrong_in : List ℕ → List WrongDirective
wrong_in s = wrong_from 1 (directives_in s)

-- the names, unless a directive is wrong: then the first one
abbrev pub unless_wrong : List WrongDirective → Names → Result Names WrongDirective
unless_wrong [] m = Ok m
unless_wrong (w ∷ ws) m = Err w

-- what a text names, or the first of its directives that is wrong
abbrev pub reading : List ℕ → Result Names WrongDirective
reading s = unless_wrong (wrong_in s) (named_by s)

-- the filter names what was read; where there is none, this directive is wrong, or memory was
-- refused
abbrev pub Reads : Result Names WrongDirective → Result Targets ParseError → Type 0
Reads r (Ok f) = r ≡ Ok (names_of f)
Reads r (Err (Wrong w)) = r ≡ Err w
Reads r (Err OutOfMemory) = ⊤

-- the filter names what the text does by directives that aren't wrong, and these are the wrong ones
pub record ReadsLossily (s : List ℕ) (f : Targets) (ws : List WrongDirective) : Type 0 where
  pub names : names_of f ≡ named_by s
  pub wrong : ws ≡ wrong_in s

-- some text was read, or its first wrong directive is given, or memory was refused; or the text
-- can't be had
abbrev pub ReadsSomeText : Result Targets FromEnvError → Type 0
ReadsSomeText (Ok f) = (s : List ℕ) × (reading s ≡ Ok (names_of f))
ReadsSomeText (Err (Parse e)) = (s : List ℕ) × Reads (reading s) (Err e)
ReadsSomeText (Err (Env e)) = ⊤
