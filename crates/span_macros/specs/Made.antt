-- What the macros make.
use Rattle.std.specs.Prelude.{◌≡◌, ℕ, List, map}
use Rattle.span_core.specs.Event.{event_metadata, event_parent, event_values}
use Rattle.span_core.specs.Metadata.{fields_of, kind_of, level_of, name_of, names_of, target_of}
use Rattle.span_core.specs.Span.{asked_parent, metadata_of, values_of}
use Rattle.span_core.specs.declared.event.Event.{Event}
use Rattle.span_core.specs.declared.field.FieldValue.{FieldValue}
use Rattle.span_core.specs.declared.level.Level.{Level}
use Rattle.span_core.specs.declared.metadata.Kind.{Kind}
use Rattle.span_core.specs.declared.metadata.Metadata.{Metadata}
use Rattle.span_core.specs.declared.span.Attributes.{Attributes}
use Rattle.span_core.specs.declared.span.Parent.TheVariants.{Contextual}
use Rattle.span_macros.specs.Metadata.{IsNumbered}

-- a callsite as it is written: a kind, a level, a name, the module that it stands in, and the names
-- of its fields
pub record Callsite : Type 0 where
  pub kind : Kind
  pub level : Level
  pub name : List ℕ
  pub target : List ℕ
  pub fields : List (List ℕ)

-- the metadata show just this callsite, and are numbered by it
pub record ShowsCallsite (site : Callsite) (m : Metadata) : Type 0 where
  pub kind : kind_of m ≡ site.kind
  pub level : level_of m ≡ site.level
  pub name : name_of m ≡ site.name
  pub target : target_of m ≡ site.target
  pub fields : map (λ field. field.now) (names_of (fields_of m)) ≡ site.fields
  pub numbered : IsNumbered m

-- an event of this callsite in the span that its lane is in, with these values under the names of
-- the fields
pub record IsEventAt (site : Callsite) (given : List FieldValue) (e : Event) : Type 0 where
  pub metadata : ShowsCallsite site (event_metadata e)
  pub names : map (λ field. field.0.now) (event_values e) ≡ site.fields
  pub values : map (λ field. field.1) (event_values e) ≡ given
  pub parent : event_parent e ≡ Contextual

-- a new span of this callsite in the span that its lane is in, with these values under the names of
-- the fields
pub record IsSpanAt (site : Callsite) (given : List FieldValue) (a : Attributes) : Type 0 where
  pub metadata : ShowsCallsite site (metadata_of a)
  pub names : map (λ field. field.0.now) (values_of a) ≡ site.fields
  pub values : map (λ field. field.1) (values_of a) ≡ given
  pub parent : asked_parent a ≡ Contextual

-- an event with these metadata in the span that its lane is in, with such values under these names
pub record IsEventOf (m : Metadata) (fields : List (List ℕ)) (Are : List FieldValue → Type 0)
    (e : Event) : Type 0 where
  pub metadata : event_metadata e ≡ m
  pub names : map (λ field. field.0.now) (event_values e) ≡ fields
  pub values : Are (map (λ field. field.1) (event_values e))
  pub parent : event_parent e ≡ Contextual

-- a new span with these metadata in the span that its lane is in, with such values under these
-- names
pub record IsSpanOf (m : Metadata) (fields : List (List ℕ)) (Are : List FieldValue → Type 0)
    (a : Attributes) : Type 0 where
  pub metadata : metadata_of a ≡ m
  pub names : map (λ field. field.0.now) (values_of a) ≡ fields
  pub values : Are (map (λ field. field.1) (values_of a))
  pub parent : asked_parent a ≡ Contextual
