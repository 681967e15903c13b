use Rattle.std.proofs.Common.{◌≡◌, take, map}
use Rattle.std.specs.List.{fold}
use Rattle.std.specs.Hash.FoldHasher as hash
use Rattle.span_core.specs.Metadata.{names_of}
use Rattle.span_macros.specs.private.Number.{hasher_at}
use Rattle.span_macros.proofs.metadata.numbered_metadata.Given as goal

-- the fields so far are hashed, behind all else
abbrev pub invariant-loop-field : goal.invariant-loop-field
invariant-loop-field l =
    hasher_at l.state
    ≡ fold hash.write (hasher_at l.initial.state) (map (λ field. field.now) (take l.field-index (names_of l.fields)))
