-- Points as a picture: a box for each time that a lane is in a span.
use Rattle.std.specs.Prelude.{◌≡◌, ◌≤◌, ◌<◌, ◌+◌, ◌-◌, ◌*◌, ◌/◌, ◌&&◌, ◌==◌, ℕ, Bool, true, AllPairs, IsTrue, if◌then◌else◌, max, nat_le, nat_lt, List, [], ◌∷◌, ◌++◌, None, Some, codes, decimal, flat_map, fold, is_none, is_some, length, map, unwrap_or}
use Rattle.std.specs.BTreeMap.{BTreeMap, get, keys}
use Rattle.std.specs.List.Sorted.{IsStrictlySortedBy}
use Rattle.std.specs.List.{AllByRecursion, list_any}
use Rattle.std.specs.Option.{option_map_or}
use Rattle.std.specs.Ordering.{nat_cmp}
use Rattle.span_core.specs.Span.{number_of}
use Rattle.span_times.specs.Clock.{NeverGoBack}
use Rattle.span_times.specs.Measure.{capped}
use Rattle.span_times.specs.declared.happening.Happening.TheVariants.{Closed, Entered, Left, Sent}
use Rattle.span_times.specs.declared.happening.Happening.{Happening}
use Rattle.span_times.specs.declared.happening.Point.{Point}
use Rattle.span_times.specs.declared.kept.Table.{Table}
use Rattle.span_export.specs.Escape.{xml_text}
use Rattle.span_export.specs.Frame.{frame_text}
use Rattle.span_export.specs.Scale.{scale_of, x_at}
use Rattle.span_export.specs.Given.{given_shown}
use Rattle.span_export.specs.Site.{Named, called, event_named, leveled, named_in}
use Rattle.span_export.specs.When.{moment_text, stay_text}
use Rattle.span_export.specs.declared.frame.Plan.{Plan}
use Rattle.span_export.specs.declared.picture.Area.{Area}
use Rattle.span_export.specs.declared.picture.Scale.{Scale}
use Rattle.span_export.specs.declared.stay.Stay.{Stay}

-- a stay on this lane that isn't over
abbrev pub lasts : ℕ → Stay → Bool
lasts lane s = s.lane.0 == lane && is_none s.left

-- a stay of this span there
abbrev pub lasts_in : ℕ → ℕ → Stay → Bool
lasts_in lane x s = lasts lane s && number_of s.span == x

-- the depth below the newest stay of a lane that isn't over, and 0 where there is none
abbrev pub depth_on : ℕ → List Stay → ℕ
depth_on lane stays = fold (λ depth s. if lasts lane s then capped (s.depth + 1) else depth) 0 stays

-- the newest stay of a span on a lane that isn't over ends
abbrev pub ended : ℕ → ℕ → ℕ → List Stay → List Stay
ended lane x time [] = []
ended lane x time (s ∷ stays) =
    if list_any (lasts_in lane x) stays then s ∷ ended lane x time stays
    else if lasts_in lane x s then record s { left = Some time } ∷ stays else s ∷ stays

-- a stay, over by now if this span is its own
abbrev pub closed_by : ℕ → ℕ → Stay → Stay
closed_by x time s =
    if number_of s.span == x && is_none s.left then record s { left = Some time } else s

-- what a point makes of the stays so far
abbrev pub stays_after : List Stay → Point → Happening → List Stay
stays_after stays p (Entered id) =
    stays ++ record {
      lane = p.lane;
      depth = depth_on p.lane.0 stays;
      span = id;
      entered = p.time;
      left = None;
    } ∷ []
stays_after stays p (Left id) = ended p.lane.0 (number_of id) p.time stays
stays_after stays p (Closed id) = map (closed_by (number_of id) p.time) stays
stays_after stays p other = stays

-- the stays of lanes in spans, in the order in which they began
abbrev pub stays_of : List Point → List Stay
stays_of ps = fold (λ stays p. stays_after stays p p.what) [] ps

-- where a stay ends: where it is left, or else at the last point
abbrev pub until : Scale → Stay → ℕ
until scale s = x_at scale (unwrap_or s.left scale.finish)

-- where the box of a stay is, on a lane with this top: at least 1 wide, and below the top by its
-- depth
abbrev pub area_of : Scale → ℕ → Stay → Area
area_of scale top s =
    record {
      x = x_at scale s.entered;
      y = capped (top + capped (capped (s.depth * 24) + 16));
      width = max (until scale s - x_at scale s.entered) 1;
    }

-- whether a box has room for a name: 7 for each byte, and 10 beside
abbrev pub has_room : List ℕ → Area → Bool
has_room name area = nat_le (length name) ((area.width - 10) / 7)

-- a name in a box
abbrev pub name_text : List ℕ → Area → List ℕ
name_text name area =
    codes "<text x=\"" ++ decimal (capped (area.x + 5)) ++ codes "\" y=\""
    ++ decimal (capped (area.y + 14)) ++ codes "\">" ++ name ++ codes "</text>"

-- a name in a box, if there is room for it
abbrev pub label_text : List ℕ → Area → List ℕ
label_text name area = if has_room name area then name_text name area else []

-- a box with this title, at this level, here, with this label
abbrev pub box_text : List ℕ → List ℕ → Area → List ℕ → List ℕ
box_text title level area label =
    codes "<g><title>" ++ title ++ codes "</title><rect class=\"" ++ level ++ codes "\" x=\""
    ++ decimal area.x ++ codes "\" y=\"" ++ decimal area.y ++ codes "\" width=\""
    ++ decimal area.width ++ codes "\" height=\"20\"/>" ++ label ++ codes "</g>\n"

-- the title of a span or an event: its name and what it was given
abbrev pub title_of : Named → List ℕ
title_of site = xml_text (called site ++ given_shown site.given)

-- the box of a stay in a span that is called so, on a lane with this top
abbrev pub box_of : Scale → ℕ → Named → Stay → List ℕ
box_of scale top site s =
    let area = area_of scale top s in
    box_text (title_of site ++ stay_text scale s) (leveled site) area
    (label_text (xml_text (called site)) area)

-- the boxes of stays
abbrev pub boxes_text : (ℕ → Named) → Scale → (ℕ → ℕ) → List Stay → List ℕ
boxes_text named scale top stays =
    flat_map (λ s. box_of scale (top s.lane.0) (named (number_of s.span)) s) stays

-- a circle with this title, at this level, here
abbrev pub circle_text : List ℕ → List ℕ → ℕ → ℕ → List ℕ
circle_text title level x y =
    codes "<circle class=\"" ++ level ++ codes "\" cx=\"" ++ decimal x ++ codes "\" cy=\""
    ++ decimal y ++ codes "\" r=\"4\"><title>" ++ title ++ codes "</title></circle>\n"

-- the mark of a point on a lane with this top, if it is an event
abbrev pub mark_of : Table → Scale → ℕ → Point → Happening → List ℕ
mark_of table scale top p (Sent callsite parent) =
    let site = event_named table p callsite in
    circle_text (title_of site ++ moment_text scale p.time) (leveled site) (x_at scale p.time)
    (capped (top + 8))
mark_of table scale top p other = []

-- the marks of points
abbrev pub marks_text : Table → Scale → (ℕ → ℕ) → List Point → List ℕ
marks_text table scale top ps = flat_map (λ p. mark_of table scale (top p.lane.0) p p.what) ps

-- the tops that a map has
abbrev pub top_in : BTreeMap ℕ ℕ → ℕ → ℕ
top_in tops lane = unwrap_or (get nat_cmp tops lane) 0

-- some point is on this lane
abbrev pub has_points : List Point → ℕ → Bool
has_points ps lane = list_any (λ p. p.lane.0 == lane) ps

-- where a plan has the box of a stay
abbrev pub place_of : List Point → ℕ → Plan → Stay → Area
place_of ps width plan s = area_of (scale_of ps width) (top_in plan.tops s.lane.0) s

-- the second stay begins while the first lasts, on the same lane
abbrev pub begins_within : Stay → Stay → Bool
begins_within s t = s.lane.0 == t.lane.0 && option_map_or (nat_lt t.entered) s.left true

-- lanes with points, and no others, have bands between their tops and these bottoms, each once:
-- below the head, with room for marks and a name, within the height, and below those of smaller
-- numbers
pub record HasBands (plan : Plan) (ps : List Point) (bottom : ℕ → ℕ) : Type 0 where
  pub once : IsStrictlySortedBy nat_cmp (keys plan.tops)
  pub lanes : (lane : ℕ) → is_some (get nat_cmp plan.tops lane) ≡ has_points ps lane
  pub inside : (lane : ℕ) → IsTrue (has_points ps lane)
      → (56 ≤ top_in plan.tops lane) × (top_in plan.tops lane + 40 ≤ bottom lane)
      × (bottom lane ≤ plan.height)
  pub apart : (a b : ℕ) → IsTrue (has_points ps a) → IsTrue (has_points ps b) → a < b
      → bottom a + 4 ≤ top_in plan.tops b

-- a box lies within this width, and in the band between these, below its marks
pub record IsInBand (width top bottom : ℕ) (area : Area) : Type 0 where
  pub across : area.x + area.width ≤ width
  pub below : top + 16 ≤ area.y
  pub above : area.y + 20 ≤ bottom

-- a plan fits a picture of points: it is 48 high for each point at most, beside its head; boxes lie
-- in the bands of their lanes; one that begins while another of its lane lasts lies in a row below
-- that, if time never goes back; later times lie no further left; and nine steps of the axis reach
-- beyond the points, but three don't, where these take three nanoseconds or more
pub record FitsPicture (plan : Plan) (ps : List Point) (width : ℕ) : Type 0 where
  pub bottom : ℕ → ℕ
  pub low : plan.height ≤ 56 + 48 * length ps
  pub bands : HasBands plan ps bottom
  pub boxes : AllByRecursion (λ s. IsInBand (max width 320) (top_in plan.tops s.lane.0)
      (bottom s.lane.0) (place_of ps width plan s)) (stays_of ps)
  pub rows : NeverGoBack 0 (map (λ p. p.time) ps)
      → AllPairs (λ s t. IsTrue (begins_within s t)
      → (place_of ps width plan s).y + 24 ≤ (place_of ps width plan t).y) (stays_of ps)
  pub times : (early late : ℕ) → early ≤ late
      → x_at (scale_of ps width) early ≤ x_at (scale_of ps width) late
  pub axis : (scale_of ps width).finish - (scale_of ps width).begin < plan.step * 9
  pub steps : plan.step * 3 ≤ max ((scale_of ps width).finish - (scale_of ps width).begin) 3

-- a text is a picture of points: in the frame of a plan that fits them the boxes of all stays and
-- the marks of all events
pub record IsPicture (text : List ℕ) (table : Table) (ps : List Point) (width : ℕ)
    : Type 0 where
  pub plan : Plan
  pub fits : FitsPicture plan ps width
  pub shows : text
      ≡ frame_text (scale_of ps width) plan
      ++ boxes_text (named_in table ps) (scale_of ps width) (top_in plan.tops) (stays_of ps)
      ++ marks_text table (scale_of ps width) (top_in plan.tops) ps ++ codes "</svg>\n"
