-- How many attributes were dropped: fields that points came with, and that aren't in the table.
use Rattle.std.specs.Prelude.{◌-◌, ◌^◌, ◌==◌, ℕ, Bool, false, if◌then◌else◌, List, codes, length, min, sum_by}
use Rattle.serde_json.specs.Data.{Members, put}
use Rattle.span_core.specs.Span.{number_of}
use Rattle.span_export.specs.Json.{whole}
use Rattle.span_times.specs.Field.{within}
use Rattle.span_times.specs.Measure.{capped}
use Rattle.span_times.specs.declared.happening.Happening.TheVariants.{Opened, Recorded}
use Rattle.span_times.specs.declared.happening.Happening.{Happening}
use Rattle.span_times.specs.declared.happening.Point.{Point}
use Rattle.span_times.specs.declared.kept.Table.{Table}

-- how many fields a point came with that the table doesn't have
abbrev pub missing : Table → Point → ℕ
missing table p =
    (p.fields.to - p.fields.from) - length (within p.fields table.fields.now)

-- a span is given fields by this
abbrev pub tells_of : ℕ → Happening → Bool
tells_of x (Opened id callsite parent) = number_of id == x
tells_of x (Recorded id) = number_of id == x
tells_of x other = false

-- how many fields a span was given at this point that the table doesn't have
abbrev pub lost_at : Table → ℕ → Point → ℕ
lost_at table x p = if tells_of x p.what then missing table p else 0

-- how many fields a span was given at these points that the table doesn't have, up to the greatest
-- u64
abbrev pub dropped_by : Table → ℕ → List Point → ℕ
dropped_by table x ps = capped (sum_by (lost_at table x) ps)

-- members that say how many attributes were dropped, up to the greatest u32, unless none were
abbrev pub with_dropped : ℕ → Members → Members
with_dropped n ms =
    if n == 0 then ms else put (codes "droppedAttributesCount") (whole (min n (2 ^ 32 - 1))) ms
