-- What metadata shows.
use Rattle.std.specs.Prelude.{◌≡◌, ℕ, List, map}
use Rattle.std.specs.Borrow.{Bor}
use Rattle.span_core.specs.declared.metadata.Metadata.{Metadata}
use Rattle.span_core.specs.declared.level.Level.{Level}
use Rattle.span_core.specs.declared.metadata.Kind.{Kind}
use Rattle.span_core.specs.declared.field.FieldSet.{FieldSet}

-- the names of a set of fields, in their order
abbrev pub names_of : FieldSet → List (Bor (List ℕ))
names_of f = f.names.now

-- the number of the callsite
abbrev pub callsite_of : Metadata → ℕ
callsite_of m = m.callsite

-- the name of a callsite, as its bytes
abbrev pub name_of : Metadata → List ℕ
name_of m = m.name.now

-- the target of a callsite, as its bytes
abbrev pub target_of : Metadata → List ℕ
target_of m = m.target.now

-- the level of a callsite
abbrev pub level_of : Metadata → Level
level_of m = m.level

-- whether the callsite makes spans or events
abbrev pub kind_of : Metadata → Kind
kind_of m = m.kind

-- the names of a callsite's fields
abbrev pub fields_of : Metadata → FieldSet
fields_of m = m.fields

-- two metadata show the same: callsite, name, target, level, kind, and the fields' names
pub record ShowSame (m k : Metadata) : Type 0 where
  pub callsite : m.callsite ≡ k.callsite
  pub name : m.name.now ≡ k.name.now
  pub target : m.target.now ≡ k.target.now
  pub level : m.level ≡ k.level
  pub kind : m.kind ≡ k.kind
  pub fields : map (λ x. x.now) m.fields.names.now ≡ map (λ x. x.now) k.fields.names.now
