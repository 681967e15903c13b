use Rattle.std.proofs.Common.{◌≡◌, drop, string_bytes}
use Rattle.std.specs.List.{list_any}
use Rattle.std.specs.Str.{bytes_eq}
use Rattle.span_export.proofs.given.is_given.Given as goal

-- none of those before has the name
abbrev pub invariant-loop-field : goal.invariant-loop-field
invariant-loop-field l =
    list_any (λ f. bytes_eq (string_bytes f.now.name) l.name) (drop l.field-index l.given)
    ≡ list_any (λ f. bytes_eq (string_bytes f.now.name) l.name) l.given
