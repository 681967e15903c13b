-- Stays of lanes: how deep they are, and how they end.
use Rattle.std.proofs.Common.{◌≡◌, ◌∙◌, ◌<◌, ◌≤◌, ◌+◌, ◌^◌, ◌==◌, ◌&&◌, ◌⊎◌, ⊎_elim, inl, inr, ℕ, zero, suc, Bool, true, false, if◌then◌else◌}
use Rattle.std.proofs.Common.{List, [], ◌∷◌, ◌++◌, Option, None, Some, ap, arith, fold, get_or, is_none, length, map, max, nat_lt, refl, subst, sym}
use Rattle.std.specs.List.{AllByRecursion, list_any}
use Rattle.std.specs.Option.{option_map_or}
use Rattle.std.proofs.lemmas.Bool.{and_from, and_parts, eq-eqb, eqb-true, ltb-true}
use Rattle.span_core.specs.Span.{number_of}
use Rattle.span_export.proofs.Counts.{count_on, one, one_most}
use Rattle.span_export.specs.Picture.{begins_within, closed_by, depth_on, ended, lasts, lasts_in, stays_after, stays_of}
use Rattle.span_export.specs.private.Plan.{rows_on}
use Rattle.span_export.specs.declared.stay.Stay.{Stay}
use Rattle.span_times.specs.Clock.{NeverGoBack}
use Rattle.span_times.specs.Measure.{capped}
use Rattle.span_times.specs.declared.happening.Happening.TheVariants.{Closed, Entered, Followed, Left, Opened, Recorded, Renamed, Sent}
use Rattle.span_times.specs.declared.happening.Happening.{Happening}
use Rattle.span_times.specs.declared.happening.Point.{Point}

-- ---- lists of stays
pub weaker : (P Q : Stay → Type 0) (stays : List Stay) → ((s : Stay) → P s → Q s) → AllByRecursion P stays → AllByRecursion Q stays
weaker P Q [] gives all = tt
weaker P Q (s ∷ stays) gives all = (gives s all.0, weaker P Q stays gives all.1)

pub both : (P Q R : Stay → Type 0) (stays : List Stay)
    → ((s : Stay) → P s → Q s → R s) → AllByRecursion P stays → AllByRecursion Q stays → AllByRecursion R stays
both P Q R [] gives all others = tt
both P Q R (s ∷ stays) gives all others = (gives s all.0 others.0, both P Q R stays gives all.1 others.1)

pub all_at : (P : Stay → Type 0) (stays : List Stay) (i : ℕ) (d : Stay) → i < length stays → AllByRecursion P stays → P (get_or stays i d)
all_at P [] i d within all = absurd (omega arith)
all_at P (s ∷ stays) zero d within all = all.0
all_at P (s ∷ stays) (suc i) d within all = all_at P stays i d (omega arith) all.1

all_push : (P : Stay → Type 0) (stays : List Stay) (s : Stay) → AllByRecursion P stays → P s → AllByRecursion P (stays ++ s ∷ [])
all_push P [] s all new = (new, tt)
all_push P (t ∷ stays) s all new = (all.0, all_push P stays s all.1 new)

-- what holds of each lane holds at each stay's own
each_own : (Q : ℕ → Stay → Type 0) (stays : List Stay) → ((lane : ℕ) → AllByRecursion (Q lane) stays) → AllByRecursion (λ s. Q s.lane.0 s) stays
each_own Q [] all = tt
each_own Q (s ∷ stays) all = ((all s.lane.0).0, each_own Q stays (λ lane. (all lane).1))

-- ---- stays that end
abbrev EndsAt : ℕ → Stay → Stay → Type 0
EndsAt time s t = (t ≡ s) ⊎ ((s.left ≡ None) × (t ≡ record s { left = Some time }))

abbrev AllEnd : ℕ → List Stay → List Stay → Type 0
AllEnd time [] [] = Unit {0}
AllEnd time [] (t ∷ ts) = ⊥
AllEnd time (s ∷ ss) [] = ⊥
AllEnd time (s ∷ ss) (t ∷ ts) = EndsAt time s t × AllEnd time ss ts

all_same : (time : ℕ) (ss : List Stay) → AllEnd time ss ss
all_same time [] = tt
all_same time (s ∷ ss) = (inl refl, all_same time ss)

nothing : (o : Option ℕ) → is_none o ≡ true → o ≡ None
nothing None is = refl
nothing (Some n) is = cc

not_over : (lane : ℕ) (s : Stay) → lasts lane s ≡ true → s.left ≡ None
not_over lane s is = nothing s.left (and_parts (s.lane.0 == lane) (is_none s.left) is).1

on_lane : (lane : ℕ) (s : Stay) → lasts lane s ≡ true → s.lane.0 ≡ lane
on_lane lane s is = eqb-true s.lane.0 lane (and_parts (s.lane.0 == lane) (is_none s.left) is).0

one_ended : (lane x time : ℕ) (s : Stay) (ss rest : List Stay) (later here : Bool) → lasts_in lane x s ≡ here → AllEnd time ss rest
    → AllEnd time (s ∷ ss) (if later then s ∷ rest else if here then record s { left = Some time } ∷ ss else s ∷ ss)
one_ended lane x time s ss rest true here is ends = (inl refl, ends)
one_ended lane x time s ss rest false true is ends = (inr (not_over lane s (and_parts (lasts lane s) (number_of s.span == x) is).0, refl), all_same time ss)
one_ended lane x time s ss rest false false is ends = all_same time (s ∷ ss)

all_ended : (lane x time : ℕ) (ss : List Stay) → AllEnd time ss (ended lane x time ss)
all_ended lane x time [] = tt
all_ended lane x time (s ∷ ss) =
    one_ended lane x time s ss (ended lane x time ss) (list_any (lasts_in lane x) ss) (lasts_in lane x s) refl (all_ended lane x time ss)

one_closed : (x time : ℕ) (s : Stay) (is : Bool) → number_of s.span == x && is_none s.left ≡ is
    → EndsAt time s (if is then record s { left = Some time } else s)
one_closed x time s true is = inr (nothing s.left (and_parts (number_of s.span == x) (is_none s.left) is).1, refl)
one_closed x time s false is = inl refl

all_closed : (x time : ℕ) (ss : List Stay) → AllEnd time ss (map (closed_by x time) ss)
all_closed x time [] = tt
all_closed x time (s ∷ ss) = (one_closed x time s (number_of s.span == x && is_none s.left) refl, all_closed x time ss)

kept : (P Q : Stay → Type 0) (time : ℕ) (ss ts : List Stay) → ((s t : Stay) → EndsAt time s t → P s → Q t)
    → AllEnd time ss ts → AllByRecursion P ss → AllByRecursion Q ts
kept P Q time [] [] gives ends all = tt
kept P Q time [] (t ∷ ts) gives ends all = absurd ends
kept P Q time (s ∷ ss) [] gives ends all = absurd ends
kept P Q time (s ∷ ss) (t ∷ ts) gives ends all = (gives s t ends.0 all.0, kept P Q time ss ts gives ends.1 all.1)

-- ---- depths: no more than a lane has points
abbrev pub IsShallow : (ℕ → ℕ) → Stay → Type 0
IsShallow count s = s.depth + 1 ≤ count s.lane.0

ends_shallow : (count : ℕ → ℕ) (time : ℕ) (s t : Stay) → EndsAt time s t → IsShallow count s → IsShallow count t
ends_shallow count time s t ends is =
    ⊎_elim (λ e. subst (λ (u : Stay). IsShallow count u) (sym e) is) (λ e. subst (λ (u : Stay). IsShallow count u) (sym e.1) is) ends

one_depth : (lane n d : ℕ) (s : Stay) (is : Bool)
    → lasts lane s ≡ is → d ≤ n → (s.lane.0 ≡ lane → s.depth + 1 ≤ n) → (if is then capped (s.depth + 1) else d) ≤ n
one_depth lane n d s true is least here = let below = here (on_lane lane s is) in omega arith
one_depth lane n d s false is least here = least

depth_fits : (lane n d : ℕ) (stays : List Stay) → d ≤ n → AllByRecursion (λ s. s.lane.0 ≡ lane → s.depth + 1 ≤ n) stays
    → fold (λ depth s. if lasts lane s then capped (s.depth + 1) else depth) d stays ≤ n
depth_fits lane n d [] least all = least
depth_fits lane n d (s ∷ stays) least all =
    depth_fits lane n (if lasts lane s then capped (s.depth + 1) else d) stays (one_depth lane n d s (lasts lane s) refl least all.0) all.1

shallow_on : (count : ℕ → ℕ) (lane : ℕ) (s : Stay) → IsShallow count s → s.lane.0 ≡ lane → s.depth + 1 ≤ count lane
shallow_on count lane s is same = let counted = ap count same in omega arith

new_shallow : (count : ℕ → ℕ) (lane : ℕ) (stays : List Stay) → AllByRecursion (IsShallow count) stays → depth_on lane stays ≤ count lane
new_shallow count lane stays all =
    depth_fits lane (count lane) 0 stays (omega arith)
    (weaker (IsShallow count) (λ s. s.lane.0 ≡ lane → s.depth + 1 ≤ count lane) stays (shallow_on count lane) all)

one_here : (n : ℕ) → one (n == n) ≡ 1
one_here n = ap one (eq-eqb n n refl)

abbrev more : (ℕ → ℕ) → Point → ℕ → ℕ
more count p lane = count lane + one (p.lane.0 == lane)

shallow_more : (count : ℕ → ℕ) (p : Point) (stays : List Stay) → AllByRecursion (IsShallow count) stays → AllByRecursion (IsShallow (more count p)) stays
shallow_more count p stays all = weaker (IsShallow count) (IsShallow (more count p)) stays (λ s is. omega arith) all

shallow_after : (count : ℕ → ℕ) (p : Point) (h : Happening) (stays : List Stay)
    → AllByRecursion (IsShallow count) stays → AllByRecursion (IsShallow (more count p)) (stays_after stays p h)
shallow_after count p (Entered id) stays all =
    all_push (IsShallow (more count p)) stays (record { lane = p.lane; depth = depth_on p.lane.0 stays; span = id; entered = p.time; left = None })
    (shallow_more count p stays all)
    (let fits = new_shallow count p.lane.0 stays all in let here = one_here p.lane.0 in omega arith)
shallow_after count p (Left id) stays all =
    kept (IsShallow (more count p)) (IsShallow (more count p)) p.time stays (ended p.lane.0 (number_of id) p.time stays)
    (ends_shallow (more count p) p.time) (all_ended p.lane.0 (number_of id) p.time stays) (shallow_more count p stays all)
shallow_after count p (Closed id) stays all =
    kept (IsShallow (more count p)) (IsShallow (more count p)) p.time stays (map (closed_by (number_of id) p.time) stays)
    (ends_shallow (more count p) p.time) (all_closed (number_of id) p.time stays) (shallow_more count p stays all)
shallow_after count p (Opened id callsite parent) stays all = shallow_more count p stays all
shallow_after count p (Recorded id) stays all = shallow_more count p stays all
shallow_after count p (Followed id other) stays all = shallow_more count p stays all
shallow_after count p (Sent callsite parent) stays all = shallow_more count p stays all
shallow_after count p (Renamed id other) stays all = shallow_more count p stays all

shallow_from : (count : ℕ → ℕ) (ps : List Point) (stays : List Stay) → AllByRecursion (IsShallow count) stays
    → AllByRecursion (IsShallow (λ lane. count lane + count_on ps lane)) (fold (λ stays p. stays_after stays p p.what) stays ps)
shallow_from count [] stays all = weaker (IsShallow count) (IsShallow (λ lane. count lane + 0)) stays (λ s is. omega arith) all
shallow_from count (p ∷ ps) stays all =
    weaker (IsShallow (λ lane. more count p lane + count_on ps lane)) (IsShallow (λ lane. count lane + count_on (p ∷ ps) lane))
    (fold (λ stays p. stays_after stays p p.what) (stays_after stays p p.what) ps) (λ s is. omega arith)
    (shallow_from (more count p) ps (stays_after stays p p.what) (shallow_after count p p.what stays all))

pub shallow_all : (ps : List Point) → AllByRecursion (IsShallow (count_on ps)) (stays_of ps)
shallow_all ps =
    weaker (IsShallow (λ lane. 0 + count_on ps lane)) (IsShallow (count_on ps)) (stays_of ps) (λ s is. omega arith) (shallow_from (λ lane. 0) ps [] tt)

-- ---- rows: enough for each stay, and no more than a lane has points
one_row : (lane n r : ℕ) (s : Stay) (is : Bool) → s.lane.0 == lane ≡ is → r ≤ n → (s.lane.0 ≡ lane → s.depth + 1 ≤ n)
    → (if is then max r (capped (s.depth + 1)) else r) ≤ n
one_row lane n r s true is least here = let below = here (eqb-true s.lane.0 lane is) in omega arith
one_row lane n r s false is least here = least

rows_from : (lane n r : ℕ) (stays : List Stay) → r ≤ n → AllByRecursion (λ s. s.lane.0 ≡ lane → s.depth + 1 ≤ n) stays
    → fold (λ rows s. if s.lane.0 == lane then max rows (capped (s.depth + 1)) else rows) r stays ≤ n
rows_from lane n r [] least all = least
rows_from lane n r (s ∷ stays) least all =
    rows_from lane n (if s.lane.0 == lane then max r (capped (s.depth + 1)) else r) stays (one_row lane n r s (s.lane.0 == lane) refl least all.0) all.1

pub rows_fit : (count : ℕ → ℕ) (lane : ℕ) (stays : List Stay) → 1 ≤ count lane → AllByRecursion (IsShallow count) stays → rows_on lane stays ≤ count lane
rows_fit count lane stays some all =
    rows_from lane (count lane) 1 stays some (weaker (IsShallow count) (λ s. s.lane.0 ≡ lane → s.depth + 1 ≤ count lane) stays (shallow_on count lane) all)

row_kept : (r n : ℕ) (is : Bool) → r ≤ (if is then max r n else r)
row_kept r n true = omega arith
row_kept r n false = omega arith

row_had : (r n : ℕ) (is : Bool) → is ≡ true → n ≤ (if is then max r n else r)
row_had r n true is = omega arith
row_had r n false is = cc

rows_rise : (lane r : ℕ) (stays : List Stay) → r ≤ fold (λ rows s. if s.lane.0 == lane then max rows (capped (s.depth + 1)) else rows) r stays
rows_rise lane r [] = omega arith
rows_rise lane r (s ∷ stays) =
    let here = row_kept r (capped (s.depth + 1)) (s.lane.0 == lane) in
    let rest = rows_rise lane (if s.lane.0 == lane then max r (capped (s.depth + 1)) else r) stays in
    omega arith

-- a lane has a row
pub some_row : (lane : ℕ) (stays : List Stay) → 1 ≤ rows_on lane stays
some_row lane stays = rows_rise lane 1 stays

rows_have : (lane r : ℕ) (stays : List Stay)
    → AllByRecursion (λ s. lane ≡ s.lane.0
    → capped (s.depth + 1) ≤ fold (λ rows s. if s.lane.0 == lane then max rows (capped (s.depth + 1)) else rows) r stays) stays
rows_have lane r [] = tt
rows_have lane r (s ∷ stays) =
    let next = if s.lane.0 == lane then max r (capped (s.depth + 1)) else r in (
      (λ same.
          let here = row_had r (capped (s.depth + 1)) (s.lane.0 == lane) (eq-eqb s.lane.0 lane (sym same)) in
          let rest = rows_rise lane next stays in
          omega arith),
      rows_have lane next stays,
    )

pub rows_suffice : (stays : List Stay) → AllByRecursion (λ s. capped (s.depth + 1) ≤ rows_on s.lane.0 stays) stays
rows_suffice stays =
    weaker (λ s. s.lane.0 ≡ s.lane.0 → capped (s.depth + 1) ≤ rows_on s.lane.0 stays)
    (λ s. capped (s.depth + 1) ≤ rows_on s.lane.0 stays) stays (λ s is. is refl)
    (each_own (λ lane s. lane ≡ s.lane.0 → capped (s.depth + 1) ≤ rows_on lane stays) stays (λ lane. rows_have lane 1 stays))

-- ---- stays that overlap: the later is deeper
abbrev Pairs : List Stay → Type 0
Pairs [] = Unit {0}
Pairs (s ∷ stays) = AllByRecursion (λ t. begins_within s t ≡ true → s.depth < t.depth) stays × Pairs stays

same_later : (time : ℕ) (s u v : Stay) → EndsAt time u v → begins_within s v ≡ begins_within s u
same_later time s u v ends = ⊎_elim (λ e. ap (begins_within s) e) (λ e. ap (begins_within s) e.1) ends

sooner : (time : ℕ) (s u : Stay) → s.left ≡ None → begins_within (record s { left = Some time }) u ≡ true → begins_within s u ≡ true
sooner time s u none within =
    and_from (s.lane.0 == u.lane.0) (option_map_or (nat_lt u.entered) s.left true)
    (and_parts (s.lane.0 == u.lane.0) (nat_lt u.entered time) within).0 (ap (λ (o : Option ℕ). option_map_or (nat_lt u.entered) o true) none)

lasted_longer : (time : ℕ) (s t u : Stay) → EndsAt time s t → begins_within t u ≡ true → begins_within s u ≡ true
lasted_longer time s t u ends within =
    ⊎_elim (λ e. subst (λ (v : Stay). begins_within v u ≡ true) e within)
    (λ e. sooner time s u e.0 (subst (λ (v : Stay). begins_within v u ≡ true) e.1 within)) ends

same_depth : (time : ℕ) (s t : Stay) → EndsAt time s t → t.depth ≡ s.depth
same_depth time s t ends = ⊎_elim (λ e. ap (λ (u : Stay). u.depth) e) (λ e. ap (λ (u : Stay). u.depth) e.1) ends

pair_kept : (time : ℕ) (s t u v : Stay) → EndsAt time s t → EndsAt time u v → (begins_within s u ≡ true → s.depth < u.depth)
    → begins_within t v ≡ true → t.depth < v.depth
pair_kept time s t u v ends ends' deeper within =
    let less = deeper (lasted_longer time s t u ends (sym (same_later time t u v ends') ∙ within)) in
    let first = same_depth time s t ends in
    let second = same_depth time u v ends' in
    omega arith

pairs_kept : (time : ℕ) (ss ts : List Stay) → AllEnd time ss ts → Pairs ss → Pairs ts
pairs_kept time [] [] ends pairs = tt
pairs_kept time [] (t ∷ ts) ends pairs = absurd ends
pairs_kept time (s ∷ ss) [] ends pairs = absurd ends
pairs_kept time (s ∷ ss) (t ∷ ts) ends pairs = (
  kept (λ u. begins_within s u ≡ true → s.depth < u.depth) (λ v. begins_within t v ≡ true → t.depth < v.depth) time ss ts
      (λ u v. pair_kept time s t u v ends.0) ends.1 pairs.0,
  pairs_kept time ss ts ends.1 pairs.1,
)

pairs_push : (stays : List Stay) (new : Stay) → Pairs stays → AllByRecursion (λ s. begins_within s new ≡ true → s.depth < new.depth) stays
    → Pairs (stays ++ new ∷ [])
pairs_push [] new pairs all = (tt, tt)
pairs_push (s ∷ stays) new pairs all =
    (all_push (λ t. begins_within s t ≡ true → s.depth < t.depth) stays new pairs.0 all.0, pairs_push stays new pairs.1 all.1)

-- a stay is over by this time, if it ended
abbrev IsOverBy : ℕ → Stay → Type 0
IsOverBy time s = (left : ℕ) → s.left ≡ Some left → left ≤ time

over_later : (now time : ℕ) (s : Stay) → now ≤ time → IsOverBy now s → IsOverBy time s
over_later now time s later over = λ left is. let by = over left is in omega arith

over_kept : (now time : ℕ) → now ≤ time → (s t : Stay) → EndsAt time s t → IsOverBy now s → IsOverBy time t
over_kept now time later s t ends over =
    ⊎_elim (λ e. subst (λ (u : Stay). IsOverBy time u) (sym e) (over_later now time s later over))
    (λ e. subst (λ (u : Stay). IsOverBy time u) (sym e.1) (λ left is. let same : time ≡ left = cc in omega arith)) ends

-- the newest stay of a lane that isn't over is deeper than the others
deeper_one : (lane n d : ℕ) (t : Stay) (is : Bool) → lasts lane t ≡ is → n + 1 < 2 ^ 64 → n < d → (lasts lane t ≡ true → n < t.depth)
    → n < (if is then capped (t.depth + 1) else d)
deeper_one lane n d t true is fits less here = let deep = here is in omega arith
deeper_one lane n d t false is fits less here = less

deeper_all : (lane n d : ℕ) (stays : List Stay) → n + 1 < 2 ^ 64 → n < d → AllByRecursion (λ t. lasts lane t ≡ true → n < t.depth) stays
    → n < fold (λ depth s. if lasts lane s then capped (s.depth + 1) else depth) d stays
deeper_all lane n d [] fits less all = less
deeper_all lane n d (t ∷ stays) fits less all =
    deeper_all lane n (if lasts lane t then capped (t.depth + 1) else d) stays fits (deeper_one lane n d t (lasts lane t) refl fits less all.0) all.1

both_last : (lane : ℕ) (s t : Stay) → lasts lane s ≡ true → lasts lane t ≡ true → begins_within s t ≡ true
both_last lane s t first second =
    and_from (s.lane.0 == t.lane.0) (option_map_or (nat_lt t.entered) s.left true)
    (eq-eqb s.lane.0 t.lane.0 (on_lane lane s first ∙ sym (on_lane lane t second)))
    (ap (λ (o : Option ℕ). option_map_or (nat_lt t.entered) o true) (not_over lane s first))

deepest : (lane d : ℕ) (stays : List Stay) → Pairs stays → AllByRecursion (λ s. s.depth + 1 < 2 ^ 64) stays
    → AllByRecursion (λ s. lasts lane s ≡ true → s.depth < fold (λ depth s. if lasts lane s then capped (s.depth + 1) else depth) d stays) stays
deepest lane d [] pairs fits = tt
deepest lane d (s ∷ stays) pairs fits = (
  (λ is.
      subst (λ (b : Bool). s.depth < fold (λ depth s. if lasts lane s then capped (s.depth + 1) else depth) (if b then capped (s.depth + 1) else d) stays)
      (sym is)
      (let few = fits.0 in deeper_all lane s.depth (capped (s.depth + 1)) stays (omega arith) (omega arith)
      (weaker (λ t. begins_within s t ≡ true → s.depth < t.depth) (λ t. lasts lane t ≡ true → s.depth < t.depth) stays
      (λ t less second. less (both_last lane s t is second)) pairs.0))),
  deepest lane (if lasts lane s then capped (s.depth + 1) else d) stays pairs.1 fits.1,
)

still_lasts : (now time : ℕ) (o : Option ℕ)
    → ((left : ℕ) → o ≡ Some left → left ≤ now) → now ≤ time → option_map_or (nat_lt time) o true ≡ true → is_none o ≡ true
still_lasts now time None over later within = refl
still_lasts now time (Some left) over later within = let by = over left refl in let less = ltb-true time left within in absurd (omega arith)

begins_lasting : (now time : ℕ) (s new : Stay) → new.entered ≡ time → now ≤ time → IsOverBy now s → begins_within s new ≡ true → lasts new.lane.0 s ≡ true
begins_lasting now time s new moment later over within =
    let parts = and_parts (s.lane.0 == new.lane.0) (option_map_or (nat_lt new.entered) s.left true) within in
    and_from (s.lane.0 == new.lane.0) (is_none s.left) parts.0
    (still_lasts now time s.left over later (subst (λ (n : ℕ). option_map_or (nat_lt n) s.left true ≡ true) moment parts.1))

-- the stays so far, by the points so far
record AreApart (count : ℕ → ℕ) (now : ℕ) (stays : List Stay) : Type 0 where
  shallow : AllByRecursion (IsShallow count) stays
  over : AllByRecursion (IsOverBy now) stays
  pairs : Pairs stays

apart_same : (count : ℕ → ℕ) (now : ℕ) (p : Point) (stays : List Stay) → now ≤ p.time → AreApart count now stays → AreApart (more count p) p.time stays
apart_same count now p stays later so_far = record {
  shallow = shallow_more count p stays so_far.shallow;
  over = weaker (IsOverBy now) (IsOverBy p.time) stays (λ s. over_later now p.time s later) so_far.over;
  pairs = so_far.pairs;
}

apart_ended : (count : ℕ → ℕ) (now : ℕ) (p : Point) (ss ts : List Stay) → now ≤ p.time → AllEnd p.time ss ts → AreApart count now ss
    → AreApart (more count p) p.time ts
apart_ended count now p ss ts later ends so_far = record {
  shallow = kept (IsShallow (more count p))
      (IsShallow (more count p)) p.time ss ts (ends_shallow (more count p) p.time) ends (shallow_more count p ss so_far.shallow);
  over = kept (IsOverBy now) (IsOverBy p.time) p.time ss ts (over_kept now p.time later) ends so_far.over;
  pairs = pairs_kept p.time ss ts ends so_far.pairs;
}

apart_after : (count : ℕ → ℕ) (now : ℕ) (p : Point) (h : Happening) (stays : List Stay) → now ≤ p.time → ((lane : ℕ) → count lane + 1 < 2 ^ 64)
    → AreApart count now stays → AreApart (more count p) p.time (stays_after stays p h)
apart_after count now p (Entered id) stays later few so_far =
    let new : Stay = record { lane = p.lane; depth = depth_on p.lane.0 stays; span = id; entered = p.time; left = None } in
    let deep = deepest p.lane.0 0 stays so_far.pairs
    (weaker (IsShallow count) (λ s. s.depth + 1 < 2 ^ 64) stays (λ s is. let most = few s.lane.0 in omega arith) so_far.shallow) in
    record {
      shallow = shallow_after count p (Entered id) stays so_far.shallow;
      over = all_push (IsOverBy p.time) stays new (weaker (IsOverBy now) (IsOverBy p.time) stays (λ s. over_later now p.time s later) so_far.over)
          (λ left is. cc);
      pairs = pairs_push stays new so_far.pairs
          (both (IsOverBy now) (λ s. lasts p.lane.0 s ≡ true → s.depth < depth_on p.lane.0 stays) (λ s. begins_within s new ≡ true → s.depth < new.depth) stays
          (λ s over less within. less (begins_lasting now p.time s new refl later over within)) so_far.over deep);
    }
apart_after count now p (Left id) stays later few so_far =
    apart_ended count now p stays (ended p.lane.0 (number_of id) p.time stays) later (all_ended p.lane.0 (number_of id) p.time stays) so_far
apart_after count now p (Closed id) stays later few so_far =
    apart_ended count now p stays (map (closed_by (number_of id) p.time) stays) later (all_closed (number_of id) p.time stays) so_far
apart_after count now p (Opened id callsite parent) stays later few so_far = apart_same count now p stays later so_far
apart_after count now p (Recorded id) stays later few so_far = apart_same count now p stays later so_far
apart_after count now p (Followed id other) stays later few so_far = apart_same count now p stays later so_far
apart_after count now p (Sent callsite parent) stays later few so_far = apart_same count now p stays later so_far
apart_after count now p (Renamed id other) stays later few so_far = apart_same count now p stays later so_far

apart_from : (count : ℕ → ℕ) (now : ℕ) (ps : List Point) (stays : List Stay) → ((lane : ℕ) → count lane + length ps + 1 < 2 ^ 64)
    → NeverGoBack now (map (λ p. p.time) ps) → AreApart count now stays → Pairs (fold (λ stays p. stays_after stays p p.what) stays ps)
apart_from count now [] stays few forward so_far = so_far.pairs
apart_from count now (p ∷ ps) stays few forward so_far =
    apart_from (more count p) p.time ps (stays_after stays p p.what)
    (λ lane. let most = few lane in let here = one_most (p.lane.0 == lane) in omega arith) forward.1
    (apart_after count now p p.what stays forward.0 (λ lane. let most = few lane in omega arith) so_far)

all_apart : (ps : List Point) → length ps + 1 < 2 ^ 64 → NeverGoBack 0 (map (λ p. p.time) ps) → Pairs (stays_of ps)
all_apart ps few forward =
    apart_from (λ lane. 0) 0 ps [] (λ lane. omega arith) forward (record { shallow = tt; over = tt; pairs = tt })

pairs_at : (stays : List Stay) (i j : ℕ) (d : Stay) → i < j → j < length stays → Pairs stays
    → begins_within (get_or stays i d) (get_or stays j d) ≡ true → (get_or stays i d).depth < (get_or stays j d).depth
pairs_at [] i j d less within pairs = absurd (omega arith)
pairs_at (s ∷ stays) i zero d less within pairs = absurd (omega arith)
pairs_at (s ∷ stays) zero (suc j) d less within pairs = all_at (λ t. begins_within s t ≡ true → s.depth < t.depth) stays j d (omega arith) pairs.0
pairs_at (s ∷ stays) (suc i) (suc j) d less within pairs = pairs_at stays i j d (omega arith) (omega arith) pairs.1

-- of two stays that overlap the later is deeper, if time never goes back
pub overlapping_deeper : (ps : List Point) (i j : ℕ) (d : Stay) → length ps + 1 < 2 ^ 64 → NeverGoBack 0 (map (λ p. p.time) ps)
    → i < j → j < length (stays_of ps) → begins_within (get_or (stays_of ps) i d) (get_or (stays_of ps) j d) ≡ true
    → (get_or (stays_of ps) i d).depth < (get_or (stays_of ps) j d).depth
overlapping_deeper ps i j d few forward less within = pairs_at (stays_of ps) i j d less within (all_apart ps few forward)
