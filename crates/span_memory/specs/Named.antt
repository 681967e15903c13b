-- What a test of a name answers.
use Rattle.std.specs.Prelude.{Bool, List, bytes_eq, ℕ}
use Rattle.span_core.specs.Metadata.{name_of}
use Rattle.span_core.specs.declared.metadata.Metadata.{Metadata}

-- whether metadata have this name
abbrev pub is_named : List ℕ → Metadata → Bool
is_named name m = bytes_eq (name_of m) name
