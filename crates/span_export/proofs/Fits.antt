-- The plan of a picture fits it.
use Rattle.std.proofs.Common.{◌≡◌, ◌∙◌, ◌<◌, ◌≤◌, ◌+◌, ◌-◌, ◌*◌, ◌/◌, ◌^◌, ◌==◌, ℕ, Bool, true, false, if◌then◌else◌, List, [], ◌∷◌, None, Some}
use Rattle.std.proofs.Common.{ap, arith, get_or, is_some, length, map, max, min, nat_lt, refl, subst, sym, unwrap_or, mul-le-mul_right}
use Rattle.std.specs.BTreeMap.{get, is_at, keys}
use Rattle.std.specs.List.Sorted.{IsStrictlySortedBy}
use Rattle.std.specs.List.{AllByRecursion}
use Rattle.std.specs.Option.{option_map_or}
use Rattle.std.specs.Map.{keys_of, lookup}
use Rattle.std.specs.Ordering.{nat_cmp}
use Rattle.std.proofs.lemmas.Bool.{and_parts, eqb-true}
use Rattle.std.proofs.lemmas.Nat.{div-add-mod', le-div}
use Rattle.span_export.proofs.Bands.{HasTops, each_found, end_within, have_tops, keys-tops_from, rising_all}
use Rattle.span_export.proofs.Counts.{count_fits, count_from, count_on, counted_some, counts_fall, counts_fit, counts_split, some_count}
use Rattle.span_export.proofs.Rows.{IsShallow, all_at, both, overlapping_deeper, rows_fit, rows_suffice, shallow_all, some_row, weaker}
use Rattle.span_export.specs.Picture.{FitsPicture, IsInBand, area_of, begins_within, has_points, place_of, stays_of, top_in, until}
use Rattle.span_export.specs.Scale.{scale_of, x_at}
use Rattle.span_export.specs.private.Plan.{IsPlanOf, below, end_from, rows_on, tops_from}
use Rattle.span_export.specs.declared.frame.Plan.{Plan}
use Rattle.span_export.specs.declared.picture.Scale.{Scale}
use Rattle.span_export.specs.declared.stay.Stay.{Stay}
use Rattle.span_times.specs.Clock.{NeverGoBack}
use Rattle.span_times.specs.Measure.{capped}
use Rattle.span_times.specs.declared.happening.Point.{Point}

-- each time lies before the free room at the right
within_plot : (scale : Scale) (time : ℕ) → x_at scale time ≤ 72 + scale.plot
within_plot scale time = omega arith

across : (x u width : ℕ) → x ≤ 72 + (max width 320 - 96) → u ≤ 72 + (max width 320 - 96) → x + max (u - x) 1 ≤ max width 320
across x u width p q = omega arith

box_across : (ps : List Point) (width top : ℕ) (s : Stay) → (area_of (scale_of ps width) top s).x + (area_of (scale_of ps width) top s).width ≤ max width 320
box_across ps width top s =
    let scale = scale_of ps width in
    across (x_at scale s.entered) (until scale s) width (within_plot scale s.entered) (within_plot scale (unwrap_or s.left scale.finish))

-- where a box is from the top, if there is room
box_down : (scale : Scale) (top : ℕ) (s : Stay) → top + s.depth * 24 + 16 < 2 ^ 64 → (area_of scale top s).y ≡ top + s.depth * 24 + 16
box_down scale top s fits = omega arith

-- later times lie further to the right
quotient_rises : (a b n : ℕ) → 0 < n → a ≤ b → a / n ≤ b / n
quotient_rises a b n some le = le-div (a / n) b n some (let whole = div-add-mod' a n in omega arith)

part_rises : (a b n m : ℕ) → a ≤ b → 72 + min (min a (max n 1) * m / max n 1) m ≤ 72 + min (min b (max n 1) * m / max n 1) m
part_rises a b n m le =
    let span = max n 1 in
    let cut : min a span ≤ min b span = omega arith in
    let quotients = quotient_rises (min a span * m) (min b span * m) span (omega arith) (mul-le-mul_right m cut) in
    omega arith

later_right : (scale : Scale) (early late : ℕ) → early ≤ late → x_at scale early ≤ x_at scale late
later_right scale early late le = part_rises (early - scale.begin) (late - scale.begin) (scale.finish - scale.begin) scale.plot (omega arith)

-- what ends was below the greatest number
end_fits : (h : ℕ) (es : List (ℕ × ℕ)) → h < 2 ^ 64 → end_from h es < 2 ^ 64
end_fits h [] fits = fits
end_fits h (e ∷ es) fits = end_fits (below h e.1) es (omega arith)

some_is : (b : Bool) (r : ℕ) → is_some (if b then Some r else None) ≡ b
some_is true r = refl
some_is false r = refl

by_points : (has : Bool) (n r : ℕ) → Some n ≡ (if has then Some r else None) → (has ≡ true) × (n ≡ r)
by_points true n r is = (refl, cc)
by_points false n r is = cc

module _ (plan : Plan) (ps : List Point) (width : ℕ) (is : IsPlanOf plan (scale_of ps width) ps (stays_of ps)) (few : length ps < 2 ^ 57) where
  abbrev bottom : ℕ → ℕ
  bottom lane = top_in plan.tops lane + rows_on lane (stays_of ps) * 24 + 16

  found : (lane : ℕ) → has_points ps lane ≡ true → lookup (is_at (nat_cmp lane)) is.rows ≡ Some (rows_on lane (stays_of ps))
  found lane has = is.counted lane ∙ ap (λ (b : Bool). if b then Some (rows_on lane (stays_of ps)) else None) has

  one_paid : (e : ℕ × ℕ) → lookup (is_at (nat_cmp e.0)) is.rows ≡ Some e.1 → e.1 * 24 + 24 ≤ count_on ps e.0 * 48
  one_paid e at =
      let by = by_points (has_points ps e.0) e.1 (rows_on e.0 (stays_of ps)) (sym at ∙ is.counted e.0) in
      let some = some_count ps e.0 by.0 in
      let fit = rows_fit (count_on ps) e.0 (stays_of ps) some (shallow_all ps) in
      omega arith

  each_paid : (es : List (ℕ × ℕ))
      → AllByRecursion (λ e. lookup (is_at (nat_cmp e.0)) is.rows ≡ Some e.1) es → AllByRecursion (λ e. e.1 * 24 + 24 ≤ count_on ps e.0 * 48) es
  each_paid [] all = tt
  each_paid (e ∷ es) all = (one_paid e all.0, each_paid es all.1)

  tops : HasTops 56 is.rows
  tops =
      have_tops (count_on ps) (count_from ps) (counts_split ps) (counts_fall ps) 56 0 is.rows (rising_all is.rows is.sorted)
      (each_paid is.rows (each_found is.rows is.sorted)) (let most = counts_fit ps 0 in omega arith)

  low : plan.height ≤ 56 + 48 * length ps
  low =
      let within = end_within (count_on ps) (count_from ps) (counts_split ps) (counts_fall ps) 56 0 is.rows (rising_all is.rows is.sorted)
      (each_paid is.rows (each_found is.rows is.sorted)) in
      let most = counts_fit ps 0 in
      let height = is.height in
      omega arith

  is_top : (lane : ℕ) → top_in plan.tops lane ≡ unwrap_or (lookup (is_at (nat_cmp lane)) (tops_from 56 is.rows)) 0
  is_top lane = ap (λ (es : List (ℕ × ℕ)). unwrap_or (lookup (is_at (nat_cmp lane)) es) 0) is.tops

  all_lanes : (lane : ℕ) → is_some (get nat_cmp plan.tops lane) ≡ has_points ps lane
  all_lanes lane =
      ap (λ (es : List (ℕ × ℕ)). is_some (lookup (is_at (nat_cmp lane)) es)) is.tops ∙ tops.known lane ∙ ap is_some (is.counted lane)
      ∙ some_is (has_points ps lane) (rows_on lane (stays_of ps))

  is_inside : (lane : ℕ) → has_points ps lane ≡ true
      → (56 ≤ top_in plan.tops lane) × (top_in plan.tops lane + 40 ≤ bottom lane) × (bottom lane ≤ plan.height)
  is_inside lane has =
      let within = tops.within lane (rows_on lane (stays_of ps)) (found lane has) in
      let at = is_top lane in
      let some = some_row lane (stays_of ps) in
      let height = is.height in
      (omega arith, omega arith, omega arith)

  are_apart : (a b : ℕ) → has_points ps a ≡ true → has_points ps b ≡ true → a < b → bottom a + 4 ≤ top_in plan.tops b
  are_apart a b here there less =
      let apart = tops.apart a b (rows_on a (stays_of ps)) (rows_on b (stays_of ps)) (found a here) (found b there) less in
      let first = is_top a in
      let second = is_top b in
      omega arith

  in_order : IsStrictlySortedBy nat_cmp (keys plan.tops)
  in_order = subst (λ (ks : List ℕ). IsStrictlySortedBy nat_cmp ks) (sym (ap keys_of is.tops ∙ keys-tops_from 56 is.rows)) is.sorted

  -- where a box is
  record IsPlaced (s : Stay) : Type 0 where
    down : (place_of ps width plan s).y ≡ top_in plan.tops s.lane.0 + s.depth * 24 + 16
    room : top_in plan.tops s.lane.0 + s.depth * 24 + 36 ≤ bottom s.lane.0

  one_placed : (s : Stay) → IsShallow (count_on ps) s → capped (s.depth + 1) ≤ rows_on s.lane.0 (stays_of ps) → IsPlaced s
  one_placed s shallow enough =
      let some : 1 ≤ count_on ps s.lane.0 = omega arith in
      let most = count_fits ps s.lane.0 in
      let inside = is_inside s.lane.0 (counted_some ps s.lane.0 some) in
      let height = is.height in
      let fits = end_fits 56 is.rows (omega arith) in
      let deep : s.depth + 1 ≤ rows_on s.lane.0 (stays_of ps) = omega arith in
      record {
        down = box_down (scale_of ps width) (top_in plan.tops s.lane.0) s (omega arith);
        room = omega arith;
      }

  all_placed : AllByRecursion IsPlaced (stays_of ps)
  all_placed =
      both (IsShallow (count_on ps)) (λ s. capped (s.depth + 1) ≤ rows_on s.lane.0 (stays_of ps)) IsPlaced (stays_of ps) one_placed
      (shallow_all ps) (rows_suffice (stays_of ps))

  in_band : (s : Stay) → IsPlaced s → IsInBand (max width 320) (top_in plan.tops s.lane.0) (bottom s.lane.0) (place_of ps width plan s)
  in_band s placed =
      let down = placed.down in
      let room = placed.room in
      record {
        across = box_across ps width (top_in plan.tops s.lane.0) s;
        below = omega arith;
        above = omega arith;
      }

  below_others : NeverGoBack 0 (map (λ p. p.time) ps) → (i j : ℕ) (d : Stay) → i < j → j < length (stays_of ps)
      → begins_within (get_or (stays_of ps) i d) (get_or (stays_of ps) j d) ≡ true
      → (place_of ps width plan (get_or (stays_of ps) i d)).y + 24 ≤ (place_of ps width plan (get_or (stays_of ps) j d)).y
  below_others forward i j d less within begins =
      let s = get_or (stays_of ps) i d in
      let t = get_or (stays_of ps) j d in
      let deeper = overlapping_deeper ps i j d (omega arith) forward less within begins in
      let first = (all_at IsPlaced (stays_of ps) i d (omega arith) all_placed).down in
      let second = (all_at IsPlaced (stays_of ps) j d within all_placed).down in
      let same =
      ap (top_in plan.tops) (eqb-true s.lane.0 t.lane.0 (and_parts (s.lane.0 == t.lane.0) (option_map_or (nat_lt t.entered) s.left true) begins).0) in
      omega arith

  pub plan_fits : FitsPicture plan ps width
  plan_fits = record {
    bottom = bottom;
    low = low;
    bands = record { once = in_order; lanes = all_lanes; inside = is_inside; apart = are_apart };
    boxes = weaker IsPlaced
        (λ s. IsInBand (max width 320) (top_in plan.tops s.lane.0) (bottom s.lane.0) (place_of ps width plan s)) (stays_of ps) in_band all_placed;
    rows = below_others;
    times = later_right (scale_of ps width);
    axis = is.axis;
    steps = is.steps;
  }
