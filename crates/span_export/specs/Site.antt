-- What spans and events are called, and what they were given.
use Rattle.std.specs.Prelude.{◌≡◌, ◌==◌, ℕ, Bool, if◌then◌else◌, List, [], ◌∷◌, Option, None, codes, find, fold, map, string_bytes}
use Rattle.std.specs.BTreeMap.{get}
use Rattle.std.specs.Borrow.{Bor}
use Rattle.std.specs.List.{list_any}
use Rattle.std.specs.Option.{option_and_then, option_copied, option_map_or}
use Rattle.std.specs.Ordering.{nat_cmp}
use Rattle.std.specs.Str.{bytes_eq}
use Rattle.span_core.specs.Level.{level_text}
use Rattle.span_core.specs.Span.{number_of}
use Rattle.span_export.specs.declared.site.Name.{Name}
use Rattle.span_export.specs.declared.site.Spans.{Spans}
use Rattle.span_times.specs.Field.{FieldSaid, field_said, kept_in, within}
use Rattle.span_times.specs.declared.field.OwnedField.{OwnedField}
use Rattle.span_times.specs.declared.happening.Happening.TheVariants.{Opened, Recorded}
use Rattle.span_times.specs.declared.happening.Happening.{Happening}
use Rattle.span_times.specs.declared.happening.Point.{Point}
use Rattle.span_times.specs.declared.kept.Table.{Table}
use Rattle.span_times.specs.declared.site.Site.{Site}

-- what a span or an event is called, if that is known, and what it was given
pub record Named : Type 0 where
  pub site : Option Site
  pub given : List FieldSaid

-- nothing is known
abbrev pub unnamed : Named
unnamed = record { site = None; given = [] }

-- the name, and ? where it isn't known
abbrev pub called : Named → List ℕ
called n = option_map_or (λ s. string_bytes s.name) n.site (codes "?")

-- the target, and ? where it isn't known
abbrev pub targeted : Named → List ℕ
targeted n = option_map_or (λ s. string_bytes s.target) n.site (codes "?")

-- the name of the level, and ? where it isn't known
abbrev pub leveled : Named → List ℕ
leveled n = option_map_or (λ s. level_text s.level) n.site (codes "?")

-- what fields say that were given
abbrev pub given_said : List (Bor OwnedField) → List FieldSaid
given_said given = map (λ f. field_said f.now) given

-- what is known of a span or an event
abbrev pub named_so : Name → Named
named_so n = record { site = option_copied n.site; given = given_said n.given.now }

-- the site with this number
abbrev pub site_numbered : List Site → ℕ → Option Site
site_numbered sites n = find (λ s. s.callsite == n) sites

-- a field behind others, or in the place of that with its name
abbrev pub put_field : FieldSaid → List FieldSaid → List FieldSaid
put_field f [] = f ∷ []
put_field f (g ∷ gs) = if bytes_eq g.0 f.0 then f ∷ gs else g ∷ put_field f gs

-- fields behind others, each in the place of that with its name, if there is one
abbrev pub put_fields : List FieldSaid → List FieldSaid → List FieldSaid
put_fields fs gs = fold (λ gs f. put_field f gs) gs fs

-- whether a field of this name is among these
abbrev pub is_given : List ℕ → List FieldSaid → Bool
is_given name fs = list_any (λ f. bytes_eq f.0 name) fs

-- the fields that a point came with, among those that were kept
abbrev pub came_with : Table → Point → List FieldSaid
came_with table p = kept_in (within p.fields table.fields.now)

-- what an event is called, and what it was given: of two fields of one name the later one
abbrev pub event_named : Table → Point → ℕ → Named
event_named table p callsite = record {
  site = site_numbered table.sites.now callsite;
  given = put_fields (came_with table p) [];
}

-- what is known of a span after something happened with these fields: its opening says what it is
-- called and what it was given, and a record what it is given from then on
abbrev pub told_by : List Site → ℕ → List FieldSaid → Happening → Named → Named
told_by sites x fs (Opened id callsite parent) n =
    if number_of id == x
    then record { site = site_numbered sites callsite; given = put_fields fs [] } else n
told_by sites x fs (Recorded id) n =
    if number_of id == x then record n { given = put_fields fs n.given } else n
told_by sites x fs other n = n

-- what a span is called, and what it was given, by all of these points
abbrev pub named_in : Table → List Point → ℕ → Named
named_in table ps x =
    fold (λ n p. told_by table.sites.now x (came_with table p) p.what n) unnamed ps

-- what a span is called, and what it was given, as it was noted
abbrev pub named_by : Spans → ℕ → Named
named_by spans x = record {
  site = option_and_then (site_numbered spans.sites.now) (get nat_cmp spans.openers x);
  given = option_map_or (λ g. given_said g.items) (get nat_cmp spans.given x) [];
}

-- all that points say of spans is noted
abbrev pub KnowsSpans : Spans → Table → List Point → Type 0
KnowsSpans spans table ps = (x : ℕ) → named_by spans x ≡ named_in table ps x
