-- Where time is shown in a picture.
use Rattle.std.specs.Prelude.{◌+◌, ◌-◌, ◌*◌, ◌/◌, ℕ, List, max, min, length, slice_get}
use Rattle.std.specs.Option.{option_map_or}
use Rattle.span_times.specs.declared.happening.Point.{Point}
use Rattle.span_export.specs.declared.picture.Scale.{Scale}

-- where time is shown: from the first point to the last; 72 are for the names of lanes, and 24 stay
-- free behind it
abbrev pub scale_of : List Point → ℕ → Scale
scale_of ps width =
    record {
      begin = option_map_or (λ p. p.time) (slice_get ps 0) 0;
      finish = option_map_or (λ p. p.time) (slice_get ps (length ps - 1)) 0;
      plot = max width 320 - 96;
    }

-- where a time lies between first and last, from the left
abbrev pub x_at : Scale → ℕ → ℕ
x_at scale time =
    let span = max (scale.finish - scale.begin) 1 in
    72 + min (min (time - scale.begin) span * scale.plot / span) scale.plot
