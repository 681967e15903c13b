-- What a timeline keeps: points, what their callsites are called, and the fields that they came
-- with.
use Rattle.std.specs.Prelude.{◌≡◌, ℕ, List, [], ◌∷◌, ◌++◌, Option, length}
use Rattle.span_core.specs.declared.metadata.Metadata.{Metadata}
use Rattle.span_times.specs.Field.{FieldSaid, range_of}
use Rattle.span_times.specs.Site.{SiteSaid, with_site}
use Rattle.span_times.specs.declared.field.FieldRange.{FieldRange}
use Rattle.span_times.specs.declared.happening.Happening.{Happening}
use Rattle.span_times.specs.declared.happening.Point.{Point}

-- points, the sites of their callsites, the fields that they came with, and for how many more
-- points there is room
pub record KeptState : Type 0 where
  pub points : List Point
  pub sites : List SiteSaid
  pub fields : List FieldSaid
  pub room : ℕ

-- there is no room for one more point without more memory
abbrev pub IsFull : KeptState → Type 0
IsFull x = x.room ≡ 0

-- what happened at a time on a lane, with the fields in this range
abbrev pub point_at : ℕ → ℕ → Happening → FieldRange → Point
point_at time lane what fields =
    record { time = time; lane = record { 0 = lane }; what = what; fields = fields }

-- what happened is kept behind the other points, and these fields with it, behind the other fields;
-- the site of these metadata is kept, unless one has their number
pub record KeepsPoint (time lane : ℕ) (what : Happening) (metadata : Option Metadata)
    (given : List FieldSaid) (x y : KeptState) : Type 0 where
  pub points : y.points
      ≡ x.points ++ point_at time lane what (range_of (length x.fields) (length given)) ∷ []
  pub sites : y.sites ≡ with_site metadata x.sites
  pub fields : y.fields ≡ x.fields ++ given

-- the points, the sites and the fields are those that there were
pub record KeepsNone (x y : KeptState) : Type 0 where
  pub points : y.points ≡ x.points
  pub sites : y.sites ≡ x.sites
  pub fields : y.fields ≡ x.fields

-- neither a field nor a site is to be kept
pub record NeedsNone (metadata : Option Metadata) (given : List FieldSaid) (x : KeptState)
    : Type 0 where
  pub sites : with_site metadata x.sites ≡ x.sites
  pub fields : given ≡ []
