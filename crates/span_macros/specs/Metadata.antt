-- Numbers of callsites.
use Rattle.std.specs.Prelude.{◌≡◌, ℕ, List, ◌∷◌, codes, map}
use Rattle.std.specs.List.{fold}
use Rattle.std.specs.Hash.FoldHasher as hash
use Rattle.span_core.specs.Level.{level_text}
use Rattle.span_core.specs.Metadata.{callsite_of, fields_of, kind_of, level_of, name_of, names_of, target_of}
use Rattle.span_core.specs.declared.metadata.Metadata.{Metadata}
use Rattle.span_core.specs.declared.metadata.TheConstants.Kind.{EVENT, SPAN}

-- all that metadata show, but for kind and number, as texts
abbrev pub shown_texts : Metadata → List (List ℕ)
shown_texts m =
    level_text (level_of m) ∷ name_of m ∷ target_of m
    ∷ map (λ field. field.now) (names_of (fields_of m))

-- the hash of texts, one after another, by the standard library's fast hasher
abbrev pub hash_of : List (List ℕ) → ℕ
hash_of texts = hash.finish (fold hash.write hash.initial texts)

-- the number is the hash of the kind's name and of all else that is shown
pub record IsNumbered (m : Metadata) : Type 0 where
  pub span : kind_of m ≡ SPAN → callsite_of m ≡ hash_of (codes "SPAN" ∷ shown_texts m)
  pub event : kind_of m ≡ EVENT → callsite_of m ≡ hash_of (codes "EVENT" ∷ shown_texts m)
