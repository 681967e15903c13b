-- W3C's text of a span of another program.
use Rattle.std.specs.Prelude.{◌≡◌, ◌^◌, ◌<◌, ℕ, List, [], ◌∷◌, ◌++◌, Ok, Result, codes}
use Rattle.std.specs.Int.{to_be_bytes, w128, w64}
use Rattle.hex.specs.Hex.{encode_lower}
use Rattle.span_core.specs.LevelText.{Reads}
use Rattle.span_otlp.specs.declared.trace_parent.TraceParent.{TraceParent}
use Rattle.span_otlp.specs.declared.trace_parent.WrongTraceParent.{WrongTraceParent}

-- the text of version 00 of a parent: its numbers and flags in lower-case hex digits
abbrev pub written : TraceParent → List ℕ
written p =
    codes "00-" ++ encode_lower (to_be_bytes w128 p.trace)
    ++ codes "-" ++ encode_lower (to_be_bytes w64 p.span)
    ++ codes "-" ++ encode_lower (p.flags ∷ [])

-- a parent that a text can be of: its numbers and flags fit, and neither number is 0
pub record IsParent (p : TraceParent) : Type 0 where
  pub trace : 0 < p.trace
  pub trace_fits : p.trace < 2 ^ 128
  pub span : 0 < p.span
  pub span_fits : p.span < 2 ^ 64
  pub flags_fit : p.flags < 2 ^ 8

-- a version, a parent's numbers and its flags in lower-case hex digits, with dashes between them,
-- and a rest behind them
abbrev pub spelled : ℕ → TraceParent → List ℕ → List ℕ
spelled version p rest =
    encode_lower (version ∷ [])
    ++ 45 ∷ (encode_lower (to_be_bytes w128 p.trace)
    ++ 45 ∷ (encode_lower (to_be_bytes w64 p.span)
    ++ 45 ∷ (encode_lower (p.flags ∷ []) ++ rest)))

-- what may stand behind the flags: of version 00 nothing, of one up to fe also a dash and anything
abbrev pub MayEnd : ℕ → List ℕ → Type 0
MayEnd version [] = version < 255
MayEnd version (c ∷ rest) = (0 < version) × (version < 255) × (c ≡ 45)

-- a text is of a parent: some version of it, as far as version 00 goes
pub record Spells (text : List ℕ) (p : TraceParent) : Type 0 where
  pub version : ℕ
  pub rest : List ℕ
  pub shape : text ≡ spelled version p rest
  pub ends : MayEnd version rest
  pub parent : IsParent p

-- a text is of one parent at most
abbrev pub TextsAreOfOne : Type 0
TextsAreOfOne = (text : List ℕ) (p q : TraceParent) → Spells text p → Spells text q → p ≡ q

-- whatever is read from what was written of a parent is that parent
abbrev pub ParentsAreReadAgain : Type 0
ParentsAreReadAgain =
    (p : TraceParent) (r : Result TraceParent WrongTraceParent) → IsParent p
    → Reads (Spells (written p)) r → r ≡ Ok p
