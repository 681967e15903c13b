-- A span that is entered and left in turns.
use Rattle.std.proofs.Common.{arith, ◌≡◌, ◌∙◌, ◌≤◌, ◌<◌, ◌+◌, ◌-◌, ◌^◌, ℕ, Bool, true, false, List, [], ◌∷◌, Option, Some, None, ap, map, refl, sym}
use Rattle.std.proofs.lemmas.Bool.{false≢true}
use Rattle.std.specs.List.{filter, find}
use Rattle.std.specs.Option.{option_and_then, option_map}
use Rattle.std.specs.Prelude.{cond, if◌then◌else◌}
use Rattle.span_times.specs.Clock.{NeverGoBack}
use Rattle.span_times.specs.Measure.{BusyAndIdleAreOpen, LivesInTurns, TakesTurns, begins_busy, begins_idle, capped, closes, ends_busy, ends_idle, first_time}
use Rattle.span_times.specs.Measure.{gap, idle_in, is_about, is_busy, is_idle, opens, spent}
use Rattle.span_times.specs.declared.happening.Happening.TheVariants.{Closed, Entered, Followed, Left, Opened, Recorded, Renamed, Sent}
use Rattle.span_times.specs.declared.happening.Happening.{Happening}
use Rattle.span_times.specs.declared.happening.Point.{Point}

-- ---- what one thing that happens begins and ends

busy_not_idle : (h : Happening) → begins_busy h ≡ true → begins_idle h ≡ false
busy_not_idle (Opened id callsite parent) e = absurd (false≢true e)
busy_not_idle (Recorded id) e = absurd (false≢true e)
busy_not_idle (Followed id other) e = absurd (false≢true e)
busy_not_idle (Sent callsite parent) e = absurd (false≢true e)
busy_not_idle (Entered id) e = refl
busy_not_idle (Left id) e = absurd (false≢true e)
busy_not_idle (Renamed id other) e = absurd (false≢true e)
busy_not_idle (Closed id) e = absurd (false≢true e)

idle_not_busy : (h : Happening) → begins_idle h ≡ true → begins_busy h ≡ false
idle_not_busy (Opened id callsite parent) e = refl
idle_not_busy (Recorded id) e = absurd (false≢true e)
idle_not_busy (Followed id other) e = absurd (false≢true e)
idle_not_busy (Sent callsite parent) e = absurd (false≢true e)
idle_not_busy (Entered id) e = absurd (false≢true e)
idle_not_busy (Left id) e = refl
idle_not_busy (Renamed id other) e = absurd (false≢true e)
idle_not_busy (Closed id) e = absurd (false≢true e)

entry_ends_idle : (h : Happening) → begins_busy h ≡ true → ends_idle h ≡ true
entry_ends_idle (Opened id callsite parent) e = absurd (false≢true e)
entry_ends_idle (Recorded id) e = absurd (false≢true e)
entry_ends_idle (Followed id other) e = absurd (false≢true e)
entry_ends_idle (Sent callsite parent) e = absurd (false≢true e)
entry_ends_idle (Entered id) e = refl
entry_ends_idle (Left id) e = absurd (false≢true e)
entry_ends_idle (Renamed id other) e = absurd (false≢true e)
entry_ends_idle (Closed id) e = absurd (false≢true e)

exit_begins_idle : (h : Happening) → ends_busy h ≡ true → begins_idle h ≡ true
exit_begins_idle (Opened id callsite parent) e = absurd (false≢true e)
exit_begins_idle (Recorded id) e = absurd (false≢true e)
exit_begins_idle (Followed id other) e = absurd (false≢true e)
exit_begins_idle (Sent callsite parent) e = absurd (false≢true e)
exit_begins_idle (Entered id) e = absurd (false≢true e)
exit_begins_idle (Left id) e = refl
exit_begins_idle (Renamed id other) e = absurd (false≢true e)
exit_begins_idle (Closed id) e = absurd (false≢true e)

close_ends_idle : (x : ℕ) (h : Happening) → closes x h ≡ true → ends_idle h ≡ true
close_ends_idle x (Opened id callsite parent) e = absurd (false≢true e)
close_ends_idle x (Recorded id) e = absurd (false≢true e)
close_ends_idle x (Followed id other) e = absurd (false≢true e)
close_ends_idle x (Sent callsite parent) e = absurd (false≢true e)
close_ends_idle x (Entered id) e = absurd (false≢true e)
close_ends_idle x (Left id) e = absurd (false≢true e)
close_ends_idle x (Renamed id other) e = absurd (false≢true e)
close_ends_idle x (Closed id) e = refl

opening_begins_idle : (x : ℕ) (h : Happening) → opens x h ≡ true → begins_idle h ≡ true
opening_begins_idle x (Opened id callsite parent) e = refl
opening_begins_idle x (Recorded id) e = absurd (false≢true e)
opening_begins_idle x (Followed id other) e = absurd (false≢true e)
opening_begins_idle x (Sent callsite parent) e = absurd (false≢true e)
opening_begins_idle x (Entered id) e = absurd (false≢true e)
opening_begins_idle x (Left id) e = absurd (false≢true e)
opening_begins_idle x (Renamed id other) e = absurd (false≢true e)
opening_begins_idle x (Closed id) e = absurd (false≢true e)

entry_no_close : (x : ℕ) (h : Happening) → begins_busy h ≡ true → closes x h ≡ false
entry_no_close x (Opened id callsite parent) e = absurd (false≢true e)
entry_no_close x (Recorded id) e = absurd (false≢true e)
entry_no_close x (Followed id other) e = absurd (false≢true e)
entry_no_close x (Sent callsite parent) e = absurd (false≢true e)
entry_no_close x (Entered id) e = refl
entry_no_close x (Left id) e = absurd (false≢true e)
entry_no_close x (Renamed id other) e = absurd (false≢true e)
entry_no_close x (Closed id) e = absurd (false≢true e)

exit_no_close : (x : ℕ) (h : Happening) → ends_busy h ≡ true → closes x h ≡ false
exit_no_close x (Opened id callsite parent) e = absurd (false≢true e)
exit_no_close x (Recorded id) e = absurd (false≢true e)
exit_no_close x (Followed id other) e = absurd (false≢true e)
exit_no_close x (Sent callsite parent) e = absurd (false≢true e)
exit_no_close x (Entered id) e = absurd (false≢true e)
exit_no_close x (Left id) e = refl
exit_no_close x (Renamed id other) e = absurd (false≢true e)
exit_no_close x (Closed id) e = absurd (false≢true e)

opening_no_close : (x : ℕ) (h : Happening) → opens x h ≡ true → closes x h ≡ false
opening_no_close x (Opened id callsite parent) e = refl
opening_no_close x (Recorded id) e = absurd (false≢true e)
opening_no_close x (Followed id other) e = absurd (false≢true e)
opening_no_close x (Sent callsite parent) e = absurd (false≢true e)
opening_no_close x (Entered id) e = absurd (false≢true e)
opening_no_close x (Left id) e = absurd (false≢true e)
opening_no_close x (Renamed id other) e = absurd (false≢true e)
opening_no_close x (Closed id) e = absurd (false≢true e)

close_is_about : (x : ℕ) (h : Happening) → closes x h ≡ true → is_about x h ≡ true
close_is_about x (Opened id callsite parent) e = absurd (false≢true e)
close_is_about x (Recorded id) e = absurd (false≢true e)
close_is_about x (Followed id other) e = absurd (false≢true e)
close_is_about x (Sent callsite parent) e = absurd (false≢true e)
close_is_about x (Entered id) e = absurd (false≢true e)
close_is_about x (Left id) e = absurd (false≢true e)
close_is_about x (Renamed id other) e = absurd (false≢true e)
close_is_about x (Closed id) e = e

opening_is_about : (x : ℕ) (h : Happening) → opens x h ≡ true → is_about x h ≡ true
opening_is_about x (Opened id callsite parent) e = e
opening_is_about x (Recorded id) e = absurd (false≢true e)
opening_is_about x (Followed id other) e = absurd (false≢true e)
opening_is_about x (Sent callsite parent) e = absurd (false≢true e)
opening_is_about x (Entered id) e = absurd (false≢true e)
opening_is_about x (Left id) e = absurd (false≢true e)
opening_is_about x (Renamed id other) e = absurd (false≢true e)
opening_is_about x (Closed id) e = absurd (false≢true e)

-- ---- a span's own points

-- those of all points that are a span's
abbrev life : ℕ → List Point → List Point
life x ps = filter (λ p. is_about x p.what) ps

-- the gaps between neighbours
abbrev gaps : (Happening → Happening → Bool) → Option Point → List Point → ℕ
gaps lies last [] = 0
gaps lies last (p ∷ ps) = gap lies last p + gaps lies (Some p) ps

one_point : (lies : Happening → Happening → Bool) (last : Option Point) (p : Point) (own : List Point) (taken skipped : ℕ) (b : Bool)
    → taken ≡ gaps lies (Some p) own → skipped ≡ gaps lies last own
    → (if b then gap lies last p + taken else skipped) ≡ gaps lies last (cond b (p ∷ own) own)
one_point lies last p own taken skipped true a b = ap (λ n. gap lies last p + n) a
one_point lies last p own taken skipped false a b = b

-- what a part took lies between neighbours of the span's own points
spent_in_life : (lies : Happening → Happening → Bool) (x : ℕ) (last : Option Point) (ps : List Point) → spent lies x last ps ≡ gaps lies last (life x ps)
spent_in_life lies x last [] = refl
spent_in_life lies x last (p ∷ ps) = one_point lies
    last p (life x ps) (spent lies x (Some p) ps) (spent lies x last ps) (is_about x p.what) (spent_in_life lies x (Some p) ps) (spent_in_life lies x last ps)

later_on : (a b : ℕ) (ts : List ℕ) → a ≤ b → NeverGoBack b ts → NeverGoBack a ts
later_on a b [] le h = tt
later_on a b (t ∷ ts) le h = let first = h.0 in (omega arith, h.1)

one_time : (from : ℕ) (p : Point) (own : List Point) (b : Bool)
    → from ≤ p.time → NeverGoBack p.time (map (λ q. q.time) own) → NeverGoBack from (map (λ q. q.time) (cond b (p ∷ own) own))
one_time from p own true le h = (le, h)
one_time from p own false le h = later_on from p.time (map (λ q. q.time) own) le h

-- their times never go back, either
life_forward : (x from : ℕ) (ps : List Point) → NeverGoBack from (map (λ p. p.time) ps) → NeverGoBack from (map (λ p. p.time) (life x ps))
life_forward x from [] h = tt
life_forward x from (p ∷ ps) h = one_time from p (life x ps) (is_about x p.what) h.0 (life_forward x p.time ps h.1)

not_true : (s : Bool) → (s ≡ true → false ≡ true) → s ≡ false
not_true true e = absurd (false≢true (e refl))
not_true false e = refl

one_found : (is : Happening → Bool) (p : Point) (ps own : List Point) (b : Bool)
    → (is p.what ≡ true → b ≡ true) → find (λ q. is q.what) ps ≡ find (λ q. is q.what) own
    → find (λ q. is q.what) (p ∷ ps) ≡ find (λ q. is q.what) (cond b (p ∷ own) own)
one_found is p ps own true e same = ap (λ r. cond (is p.what) (Some p) r) same
one_found is p ps own false e same = ap (λ b. cond b (Some p) (find (λ q. is q.what) ps)) (not_true (is p.what) e) ∙ same

-- what is a span's is found among its own points
found_in_life : (x : ℕ) (is : Happening → Bool) (ps : List Point)
    → ((h : Happening) → is h ≡ true → is_about x h ≡ true) → find (λ p. is p.what) ps ≡ find (λ p. is p.what) (life x ps)
found_in_life x is [] e = refl
found_in_life x is (p ∷ ps) e = one_found is p ps (life x ps) (is_about x p.what) (e p.what) (found_in_life x is ps e)

-- ---- in turns

-- when the last of these points happened
abbrev end_of : Point → List Point → ℕ
end_of p [] = p.time
end_of p (q ∷ ps) = end_of q ps

both_true : (a b : Bool) → (if a then b else false) ≡ true → (a ≡ true) × (b ≡ true)
both_true true b e = (refl, e)
both_true false b e = absurd (false≢true e)

lies_not : (begins ends : Bool) (n : ℕ) → begins ≡ false → (if (if begins then ends else false) then n else 0) ≡ 0
lies_not begins ends n e = ap (λ b. if (if b then ends else false) then n else 0) e

lies_so : (begins ends : Bool) (n : ℕ) → begins ≡ true → ends ≡ true → (if (if begins then ends else false) then n else 0) ≡ n
lies_so begins ends n e f = ap (λ b. if (if b then ends else false) then n else 0) e ∙ ap (λ b. if b then n else 0) f

abbrev both : Point → List Point → ℕ
both p ps = gaps is_busy (Some p) ps + gaps is_idle (Some p) ps

-- from a point after which nobody is in the span, both parts make up the time to the end
turns_whole : (x : ℕ) (last : Point) (ps : List Point)
    → begins_idle last.what ≡ true → TakesTurns x ps → NeverGoBack last.time (map (λ p. p.time) ps) → both last ps + last.time ≡ end_of last ps
turns_whole x last [] idle h forward = absurd h
turns_whole x last (p ∷ []) idle h forward =
    let le : last.time ≤ p.time = forward.0 in
    let busy : gap is_busy (Some last) p ≡ 0 = lies_not (begins_busy last.what) (ends_busy p.what) (p.time - last.time) (idle_not_busy last.what idle) in
    let rest : gap is_idle (Some last) p ≡ p.time - last.time =
    lies_so (begins_idle last.what) (ends_idle p.what) (p.time - last.time) idle (close_ends_idle x p.what h) in
    ap (λ n. ((n + 0) + (gap is_idle (Some last) p + 0)) + last.time) busy ∙ ap (λ n. (0 + (n + 0)) + last.time) rest ∙ omega arith
turns_whole x last (p ∷ q ∷ ps) idle h forward =
    let first : last.time ≤ p.time = forward.0 in
    let second : p.time ≤ q.time = forward.1.0 in
    let entry = both_true (begins_busy p.what) (ends_busy q.what) h.0 in
    let a : gap is_busy (Some last) p ≡ 0 = lies_not (begins_busy last.what) (ends_busy p.what) (p.time - last.time) (idle_not_busy last.what idle) in
    let b : gap is_idle (Some last) p ≡ p.time - last.time =
    lies_so (begins_idle last.what) (ends_idle p.what) (p.time - last.time) idle (entry_ends_idle p.what entry.0) in
    let c : gap is_busy (Some p) q ≡ q.time - p.time = lies_so (begins_busy p.what) (ends_busy q.what) (q.time - p.time) entry.0 entry.1 in
    let d : gap is_idle (Some p) q ≡ 0 = lies_not (begins_idle p.what) (ends_idle q.what) (q.time - p.time) (busy_not_idle p.what entry.0) in
    let more : both q ps + q.time ≡ end_of q ps = turns_whole x q ps (exit_begins_idle q.what entry.1) h.1 forward.1.1 in
    let u = gaps is_busy (Some q) ps in
    let v = gaps is_idle (Some q) ps in
    four (gap is_busy (Some last) p)
    (gap is_idle (Some last) p) (gap is_busy (Some p) q) (gap is_idle (Some p) q) u v last.time p.time q.time (end_of q ps) first second a b c d more
  where
    four : (a b c d u v l p q e : ℕ) → l ≤ p → p ≤ q → a ≡ 0 → b ≡ p - l → c ≡ q - p → d ≡ 0 → (u + v) + q ≡ e → ((a + (c + u)) + (b + (d + v))) + l ≡ e
    four a b c d u v l p q e first second e1 e2 e3 e4 e5 = omega arith

find_past : (x : ℕ) (p : Point) (ps : List Point) → closes x p.what ≡ false → find (λ q. closes x q.what) (p ∷ ps) ≡ find (λ q. closes x q.what) ps
find_past x p ps other = ap (λ b. cond b (Some p) (find (λ q. closes x q.what) ps)) other

-- such a span closes at the end
turns_end : (x : ℕ) (last : Point) (ps : List Point) → TakesTurns x ps → first_time (closes x) ps ≡ Some (end_of last ps)
turns_end x last [] h = absurd h
turns_end x last (p ∷ []) h = ap (λ b. option_map (λ (q : Point). q.time) (cond b (Some p) None)) h
turns_end x last (p ∷ q ∷ ps) h =
    let entry = both_true (begins_busy p.what) (ends_busy q.what) h.0 in
    ap (λ o. option_map (λ (q : Point). q.time) o)
    (find_past x p (q ∷ ps) (entry_no_close x p.what entry.0) ∙ find_past x q ps (exit_no_close x q.what entry.1)) ∙ turns_end x q ps h.1

capped_small : (n m : ℕ) → n ≤ m → m < 2 ^ 64 → capped n ≡ n
capped_small n m le lt = omega arith

some_same : {A : Type 0} (a b : A) → Some a ≡ Some b → a ≡ b
some_same a b e = cc

-- one life, its opening first
lived : (x whole : ℕ) (own : List Point) → LivesInTurns x own → NeverGoBack 0 (map (λ p. p.time) own)
    → option_and_then (λ from. option_map (λ to. to - from) (first_time (closes x) own)) (first_time (opens x) own) ≡ Some whole → whole < 2 ^ 64
    → capped (gaps is_busy None own) + capped (gaps is_idle None own) ≡ whole
lived x whole [] h forward took fits = absurd h
lived x whole (p ∷ ps) h forward took fits =
    let turns : both p ps + p.time ≡ end_of p ps = turns_whole x p ps (opening_begins_idle x p.what h.0) h.1 forward.1 in
    let opened : first_time (opens x) (p ∷ ps) ≡ Some p.time =
    ap (λ b. option_map (λ (q : Point). q.time) (cond b (Some p) (find (λ q. opens x q.what) ps))) h.0 in
    let closed : first_time (closes x) (p ∷ ps) ≡ Some (end_of p ps) =
    ap (λ o. option_map (λ (q : Point). q.time) o) (find_past x p ps (opening_no_close x p.what h.0)) ∙ turns_end x p ps h.1 in
    let so : Some (end_of p ps - p.time) ≡ Some whole =
    sym (ap (λ o. option_and_then (λ from. option_map (λ to. to - from) (first_time (closes x) (p ∷ ps))) o) opened
    ∙ ap (λ o. option_map (λ to. to - p.time) o) closed) ∙ took in
    let same : end_of p ps - p.time ≡ whole = some_same (end_of p ps - p.time) whole so in
    sums (gaps is_busy (Some p) ps) (gaps is_idle (Some p) ps) p.time (end_of p ps) whole turns same fits
  where
    sums : (b i from to whole : ℕ) → (b + i) + from ≡ to → to - from ≡ whole → whole < 2 ^ 64 → capped (0 + b) + capped (0 + i) ≡ whole
    sums b i from to whole e f fits =
        let busy : capped (0 + b) ≡ 0 + b = capped_small (0 + b) whole (omega arith) fits in
        let idle : capped (0 + i) ≡ 0 + i = capped_small (0 + i) whole (omega arith) fits in
        omega arith

pub busy_and_idle : BusyAndIdleAreOpen
busy_and_idle points x whole turns forward took fits =
    let own = life x points in
    let opened = ap (λ o. option_map (λ (p : Point). p.time) o) (found_in_life x (opens x) points (opening_is_about x)) in
    let closed = ap (λ o. option_map (λ (p : Point). p.time) o) (found_in_life x (closes x) points (close_is_about x)) in
    let own_took =
    ap (λ (o : Option ℕ). option_and_then (λ from. option_map (λ to. to - from) (first_time (closes x) own)) o) (sym opened)
    ∙ ap (λ (c : Option ℕ). option_and_then (λ from. option_map (λ to. to - from) c) (first_time (opens x) points)) (sym closed) ∙ took in
    ap (λ b. capped b + idle_in points x) (spent_in_life is_busy x None points)
    ∙ ap (λ i. capped (gaps is_busy None own) + capped i) (spent_in_life is_idle x None points)
    ∙ lived x whole own turns (life_forward x 0 points forward) own_took fits
