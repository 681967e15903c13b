-- Two parts that stand together.
use Rattle.std.specs.Prelude.{◌≡◌}
use Rattle.span_registry.specs.Form.{Form, Arrangement, Parts}

-- the form of two parts that stand together in this way: each part's own form
abbrev pub PartsForm : Arrangement → (Form → Type 0) → (Form → Type 0) → Form → Type 0
PartsForm joint outer inner (Parts k o i) = (k ≡ joint) × outer o × inner i
PartsForm joint outer inner other = ⊥
